-- The map behind contents does what contents do.
use Rattle.std.proofs.Common.{◌≡◌, ℕ, ◌/◌, ◌%◌, ◌^◌, ◌<◌, cond, List, [], ◌∷◌, refl, sym, ap, ◌∙◌, arith, Some}
use Rattle.std.specs.Ordering.{nat_cmp, ordering_then, match_ordering, is_eq, MatchOrdering}
use Rattle.std.specs.declared.cmp.Ordering.{Ordering}
use Rattle.std.specs.declared.cmp.Ordering.TheVariants.{Less, Equal, Greater}
use Rattle.std.specs.Cmp.{ranked}
use Rattle.std.specs.Map.{lookup}
use Rattle.std.specs.BTreeMap.{insert_entry, is_at}
use Rattle.std.specs.FinMap.Entries.{by_order}
use Rattle.object_words.specs.Chains.{place_of}
use Rattle.object_words.specs.Contents.{Contents, place_cmp, words_at, with_words}
use Rattle.object_store.specs.Map.{contents_in}

-- numbers compare as the places that they name
parts_cmp : (x y : ℕ) (high low all : Ordering)
    → MatchOrdering high (x / 2 ^ 48 < y / 2 ^ 48) (x / 2 ^ 48 ≡ y / 2 ^ 48) (y / 2 ^ 48 < x / 2 ^ 48)
    → MatchOrdering low (x % 2 ^ 48 < y % 2 ^ 48) (x % 2 ^ 48 ≡ y % 2 ^ 48) (y % 2 ^ 48 < x % 2 ^ 48)
    → MatchOrdering all (x < y) (x ≡ y) (y < x) → ordering_then high low ≡ all
parts_cmp x y Less low Less h l a = refl
parts_cmp x y Less low Equal h l a = absurd (omega arith)
parts_cmp x y Less low Greater h l a = absurd (omega arith)
parts_cmp x y Greater low Less h l a = absurd (omega arith)
parts_cmp x y Greater low Equal h l a = absurd (omega arith)
parts_cmp x y Greater low Greater h l a = refl
parts_cmp x y Equal Less Less h l a = refl
parts_cmp x y Equal Less Equal h l a = absurd (omega arith)
parts_cmp x y Equal Less Greater h l a = absurd (omega arith)
parts_cmp x y Equal Equal Less h l a = absurd (omega arith)
parts_cmp x y Equal Equal Equal h l a = refl
parts_cmp x y Equal Equal Greater h l a = absurd (omega arith)
parts_cmp x y Equal Greater Less h l a = absurd (omega arith)
parts_cmp x y Equal Greater Equal h l a = absurd (omega arith)
parts_cmp x y Equal Greater Greater h l a = refl

pub place_cmp-place_of : (x y : ℕ) → place_cmp (place_of x) (place_of y) ≡ nat_cmp x y
place_cmp-place_of x y =
    parts_cmp x y (nat_cmp (x / 2 ^ 48) (y / 2 ^ 48)) (nat_cmp (x % 2 ^ 48) (y % 2 ^ 48)) (nat_cmp x y)
    (ranked (x / 2 ^ 48) (y / 2 ^ 48) _ refl) (ranked (x % 2 ^ 48) (y % 2 ^ 48) _ refl) (ranked x y _ refl)

pub words_at-contents_in : (entries : List (ℕ × List ℕ)) (raw : ℕ) → words_at (contents_in entries) (place_of raw) ≡ lookup (is_at (nat_cmp raw)) entries
words_at-contents_in [] raw = refl
words_at-contents_in (one ∷ more) raw =
    ap (λ o. cond (is_eq o) (Some one.1) (words_at (contents_in more) (place_of raw))) (place_cmp-place_of raw one.0)
    ∙ ap (cond (is_eq (nat_cmp raw one.0)) (Some one.1)) (words_at-contents_in more raw)

same_cases : (o : Ordering) (a b c : Contents) → by_order o a b c ≡ match_ordering o a b c
same_cases Less a b c = refl
same_cases Equal a b c = refl
same_cases Greater a b c = refl

through_cases : (o : Ordering) (a b c : List (ℕ × List ℕ)) → contents_in (match_ordering o a b c) ≡ match_ordering o (contents_in a) (contents_in b) (contents_in c)
through_cases Less a b c = refl
through_cases Equal a b c = refl
through_cases Greater a b c = refl

pub contents_in-insert_entry : (entries : List (ℕ × List ℕ)) (raw : ℕ) (words : List ℕ)
    → contents_in (insert_entry nat_cmp entries raw words) ≡ with_words (contents_in entries) (place_of raw) words
contents_in-insert_entry [] raw words = refl
contents_in-insert_entry (one ∷ more) raw words =
    through_cases (nat_cmp raw one.0) ((raw, words) ∷ one ∷ more) ((one.0, words) ∷ more) (one ∷ insert_entry nat_cmp more raw words)
    ∙ (ap (λ rest. match_ordering (nat_cmp raw one.0) ((place_of raw, words) ∷ contents_in (one ∷ more)) ((place_of one.0, words) ∷ contents_in more) ((place_of one.0, one.1) ∷ rest)) (contents_in-insert_entry more raw words)
    ∙ (ap (λ o. match_ordering o ((place_of raw, words) ∷ contents_in (one ∷ more)) ((place_of one.0, words) ∷ contents_in more) ((place_of one.0, one.1) ∷ with_words (contents_in more) (place_of raw) words)) (sym (place_cmp-place_of raw one.0))
    ∙ sym (same_cases (place_cmp (place_of raw) (place_of one.0)) _ _ _)))
