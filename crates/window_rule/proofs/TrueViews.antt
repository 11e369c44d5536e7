-- What the invariant says of one view alone.
use Rattle.std.proofs.Common.{◌≡◌, ℕ, List, [], ◌∷◌, ◌++◌, ◌<◌, set, refl, sym, ap, subst, arith, Some}
use Rattle.std.specs.List.{All, AllByRecursion}
use Rattle.std.proofs.lemmas.List.Elements.{All-from_recursion, recursion_from_All}
use mathlib.Core.Option.{some}
use lib.ListN.{get_elem?}
use Rattle.atomic_table.proofs.Lists.{at_map}
use Rattle.rma_layout.specs.declared.word.Word.{Word}
use Rattle.rma_layout.specs.Shape.{Shape}
use Rattle.rma_layout.specs.Placement.{Place}
use Rattle.object_words.specs.Contents.{Contents, overlay}
use Rattle.object_words.specs.Entries.{Entry, EachEntry, HasMaps}
use Rattle.window_rule.specs.View.{View, Known}
use Rattle.window_rule.specs.Known.{known_of}
use Rattle.window_rule.specs.Words.{Words, with_word, is_block}
use Rattle.window_rule.specs.Objects.{LiesAt}
use Rattle.window_rule.specs.Partition.{OwnOf, Within, places_of, times}
use Rattle.window_rule.specs.Permits.{Permits}
use Rattle.window_rule.specs.Truths.{IsTrueView, WasLawful}
use Rattle.window_rule.specs.Lawful.{Ground, Holds, locks_of}
use Rattle.window_rule.proofs.WordFunctions.{is_block-tells, with_word-same}
use Rattle.window_rule.proofs.PartitionKept.{share-tells, share-le, two_shares}
use Rattle.window_rule.proofs.ViewsKept.{part_before, set_here_at}
use Rattle.window_rule.proofs.GetSteps.{known_kept}
use Rattle.window_rule.proofs.LengthRead.{load_goes}
use Rattle.window_rule.proofs.NoteSteps.{notes_change}

each_first : {N : Type 0} (Holds : Contents → Entry N → Type 0) (contents : Contents)
    (one rest : List (Entry N)) → EachEntry Holds contents (one ++ rest)
    → EachEntry Holds contents one
each_first P contents [] rest h = tt
each_first P contents (entry ∷ more) rest h =
    (h.0, each_first P (overlay contents entry.writes) more rest h.1)

all_first : {X : Type 0} (P : X → Type 0) (one rest : List X) → AllByRecursion P (one ++ rest)
    → AllByRecursion P one
all_first P [] rest h = tt
all_first P (x ∷ more) rest h = (h.0, all_first P more rest h.1)

module _ {N : Type 0} (fits : Shape → Entry N → Type 0) (shape : Shape) (words : Words)
    (views : List (View N)) (ground : Ground N) (h : Holds fits shape words views ground) (id : ℕ)
    (view : View N) (there : get_elem? views id ≡ some view) where
  chain_is : (object : Place) (known : Known) → known_of view.known object ≡ Some known
      → (ground.objects object).chain ≡ known.chain
  chain_is object known is = ((h.holdings id view there).read object known is).0.chain_is

  pub true_view : IsTrueView fits shape view
  true_view =
      let chronicle = h.history.each id view there in
      let begins = chronicle.begins in record {
        legal = record {
          maps = All-from_recursion HasMaps view.seen
              (all_first HasMaps view.seen begins.0
              (recursion_from_All HasMaps (view.seen ++ begins.0)
              (subst (All HasMaps) (sym begins.1) h.history.legal.maps)));
          reads = each_first _ [] view.seen begins.0
              (subst (EachEntry _ []) (sym begins.1) h.history.legal.reads);
          blocks = λ counted. each_first _ [] view.seen begins.0
              (subst (EachEntry _ []) (sym begins.1) (h.history.legal.blocks counted));
        };
        fitting = all_first (fits shape) view.seen begins.0
            (subst (AllByRecursion (fits shape)) (sym begins.1) h.history.fitting);
        ranked = all_first (λ (entry : Entry N). entry.rank < shape.ranks) view.seen begins.0
            (subst (AllByRecursion (λ (entry : Entry N). entry.rank < shape.ranks)) (sym begins.1)
            h.history.ranked);
        own = chronicle.own;
        knows = h.memory id view there;
        full = λ object known is.
            (known_kept fits shape words views ground h id view there object known is).blocks;
        few_words = λ object known is.
            (known_kept fits shape words views ground h id view there object known is).few_words;
        locked = λ object hold is. h.locks.of_blocks id view.locks object hold
            (at_map locks_of views id view there) is;
        lies = λ object known is. subst (LiesAt object) (chain_is object known is) (h.lie object);
        inside = λ object known b is here.
            is_block-tells shape b
            (share-tells (is_block shape b) (ground.owner b) (Within object)
            (omega (
              arith,
              h.blocks.each (Within object) b,
              ap (times b) (chain_is object known is),
            ))).0;
        once = λ b. omega (
          arith,
          h.blocks.each (OwnOf id) b,
          share-le (is_block shape b) (ground.owner b) (OwnOf id),
          ap (λ l. times b (places_of l))
              (part_before (λ (v : View N). v.private) views id view view [] there),
        );
        apart = λ object known b is. omega (
          arith,
          h.blocks.each (OwnOf id) b,
          h.blocks.each (Within object) b,
          two_shares (is_block shape b) (ground.owner b) (Within object) (OwnOf id) (λ e. cc e),
          ap (times b) (chain_is object known is),
          ap (λ l. times b (places_of l))
              (part_before (λ (v : View N). v.private) views id view view [] there),
        );
      }

-- so each step may tell it of the view after
pub truly_permitted : {N : Type 0} (fits : Shape → Entry N → Type 0) (shape : Shape) (word : Word)
    (change : ℕ → ℕ) (before : View N) (Told : ℕ → View N → Type 0)
    → Permits fits shape word change before Told
    → Permits fits shape word change before
    (λ found after. Told found after × IsTrueView fits shape after)
truly_permitted fits shape word change before Told may = record {
  goes = λ words views id now small.
      let gone = may.goes words views id now small in record {
        after = gone.after;
        lawful = gone.lawful;
        same_rights = gone.same_rights;
        told = (
          gone.told,
          true_view fits shape _
              (set views id gone.after) gone.lawful.ground gone.lawful.holds id gone.after
              (set_here_at views id before gone.after now.there),
        );
      };
}

-- a load tells besides that the words and all views were lawful
pub witnessed : {N : Type 0} (fits : Shape → Entry N → Type 0) (shape : Shape) (word : Word)
    (before : View N) (Told : ℕ → View N → Type 0)
    → Permits fits shape word (λ found. found) before Told
    → Permits fits shape word (λ found. found) before
    (λ found after. Told found after × WasLawful fits shape word found after)
witnessed fits shape word before Told may = record {
  goes = λ words views id now small.
      let gone = may.goes words views id now small in record {
        after = gone.after;
        lawful = gone.lawful;
        same_rights = gone.same_rights;
        told = (
          gone.told,
          record {
            words = with_word words word (words word);
            views = set views id gone.after;
            id = id;
            lawful = gone.lawful;
            there = set_here_at views id before gone.after now.there;
            found_is = sym (with_word-same words word (words word));
          },
        );
      };
}

-- a load that tells nothing of the word leaves the view as it is
pub look_permitted : {N : Type 0} (fits : Shape → Entry N → Type 0) (shape : Shape) (word : Word)
    (before : View N)
    → Permits fits shape word (λ found. found) before (λ _ after. after ≡ before)
look_permitted fits shape word before = record {
  goes = λ words views id now small.
      load_goes fits shape words word views id before (λ after. after ≡ before) (record {
        after = before;
        lawful = notes_change fits shape words views id before now before refl refl refl
            (now.lawful.holds.notes id before now.there);
        same_rights = refl;
        told = refl;
      });
}
