-- Words that are items, one by one.
use Rattle.std.proofs.Common.{◌≡◌, ◌≢◌, ℕ, ◌^◌, ◌<◌, ◌≤◌, Bool, List, [], ◌∷◌, ◌++◌, map, Option, None, MatchOption, refl, sym, ap, subst, ◌∙◌, ◌⊎◌, inl, inr, append_assoc, arith}
use Rattle.std.specs.List.{AllByRecursion}
use Rattle.std.proofs.lemmas.List.{map-append}
use Rattle.std.specs.Fmt.{decimal}
use Rattle.std.proofs.lemmas.Fmt.{decimal_injective}
use Rattle.gdi_kinds.specs.Names.{IsName}
use Rattle.gdi_kinds.specs.declared.value.Value.{Value}
use Rattle.gdi_kinds.specs.declared.edge_line.EdgeLine.{EdgeLine}
use Rattle.gdi_kinds.specs.declared.prop_line.PropLine.{PropLine}
use Rattle.text_words.specs.Spelling.{value_text, IsValue}
use Rattle.text_words.proofs.PrintLemmas.{all_append}
use Rattle.outcome_text.specs.declared.said.Ending.{Ending}
use Rattle.outcome_text.specs.declared.said.Ending.TheVariants as ending
use Rattle.outcome_text.specs.declared.said_reader.EndingWord.{EndingWord}
use Rattle.outcome_text.specs.declared.said_reader.EndingWord.TheVariants as end
use Rattle.outcome_text.specs.Outputs.{prop_text, edge_text, way_text}
use Rattle.outcome_text.specs.Runs.{IsNumber, IsPropLine, IsEdgeLine}
use Rattle.outcome_text.specs.Reading.{HasNo, IsNoDigit, IsEnding, ending_words, text_of_ending}
use Rattle.outcome_text.proofs.InverseLemmas.{split_same, no_split, number_lacks, name_lacks, edge_parts, way_lacks}

-- where a word behind items is none, the words are none
pub no_items : {A : Type 0} (f : A → List ℕ) (P : A → Type 0) (items xs : List A) (w : List ℕ) (rest : List (List ℕ)) → AllByRecursion P xs → ((x : A) → P x → w ≢ f x) → map f items ++ w ∷ rest ≢ map f xs
no_items f P [] [] w rest all none same = absurd (cc)
no_items f P [] (x ∷ xs) w rest all none same = none x all.0 (cc)
no_items f P (y ∷ items) [] w rest all none same = absurd (cc)
no_items f P (y ∷ items) (x ∷ xs) w rest all none same = no_items f P items xs w rest all.1 none (cc)

-- the first words are these items, and the others are left
pub record AreItems {A : Type 0} (f : A → List ℕ) (P : A → Type 0) (words : List (List ℕ)) (items : List A) (rest : List (List ℕ)) : Type 0 where
  pub words_are : words ≡ map f items ++ rest
  pub fit : AllByRecursion P items

pub items_none : {A : Type 0} (f : A → List ℕ) (P : A → Type 0) (words : List (List ℕ)) (items : List A) (left : List (List ℕ)) (w : List ℕ) (rest : List (List ℕ)) → AreItems f P words items left → left ≡ w ∷ rest → ((x : A) → P x → w ≢ f x) → (xs : List A) → AllByRecursion P xs → words ≢ map f xs
items_none f P words items left w rest are first none xs all same =
    no_items f P items xs w rest all none (ap (λ (y : List (List ℕ)). map f items ++ y) (sym first) ∙ sym are.words_are ∙ same)

pub items_on : {A : Type 0} (f : A → List ℕ) (P : A → Type 0) (words : List (List ℕ)) (items : List A) (left : List (List ℕ)) (w : List ℕ) (rest : List (List ℕ)) (x : A) → AreItems f P words items left → left ≡ w ∷ rest → w ≡ f x → P x → AreItems f P words (items ++ x ∷ []) rest
items_on f P words items left w rest x are first is fits = record {
  words_are = are.words_are ∙ ap (λ (y : List (List ℕ)). map f items ++ y) first ∙ ap (λ (y : List ℕ). map f items ++ y ∷ rest) is
      ∙ sym (append_assoc (map f items) (f x ∷ []) rest) ∙ ap (λ (y : List (List ℕ)). y ++ rest) (sym (map-append f items (x ∷ [])));
  fit = all_append P items (x ∷ []) are.fit (fits, tt);
}

-- ---- where a word is split and a part of it is misspelled

pub no_two : (mark : ℕ) (word first second : List ℕ) → IsNoDigit mark → word ≡ first ++ mark ∷ second → HasNo mark first → ((n : ℕ) → n < 2 ^ 64 → first ≢ decimal n) ⊎ ((n : ℕ) → n < 2 ^ 64 → second ≢ decimal n) → (m n : ℕ) → IsNumber m → IsNumber n → word ≢ decimal m ++ mark ∷ decimal n
no_two mark word first second out is none wrong m n a b same =
    let parts = split_same mark first (decimal m) second (decimal n) none (number_lacks mark m out a) (sym is ∙ same) in
    elim wrong [ inl left ↦ left m a parts.0 | inr right ↦ right n b parts.1 ]

pub no_prop : (word name value : List ℕ) → word ≡ name ++ 61 ∷ value → HasNo 61 name → (¬ IsName name) ⊎ ((v : Value) → IsValue v → value ≢ value_text v) → (p : PropLine) → IsPropLine p → word ≢ prop_text p
no_prop word name value is none wrong p fits same =
    let parts = split_same 61 name p.name value (value_text p.value) none (name_lacks p.name fits.name) (sym is ∙ same) in
    elim wrong [ inl left ↦ left (subst IsName (sym parts.0) fits.name) | inr right ↦ right p.value fits.value parts.1 ]

pub no_prop_split : (word : List ℕ) → HasNo 61 word → (p : PropLine) → IsPropLine p → word ≢ prop_text p
no_prop_split word none p fits same = no_split 61 p.name (value_text p.value) word none same

-- the way of an edge's item and the numbers behind it
edge_split : (word way numbers : List ℕ) (e : EdgeLine) → word ≡ way ++ 58 ∷ numbers → HasNo 58 way → word ≡ edge_text e → (way ≡ way_text e.undirected e.inward) × (numbers ≡ decimal e.source ++ 58 ∷ (decimal e.ordinal ++ 58 ∷ decimal e.target))
edge_split word way numbers e is none same = split_same 58 way (way_text e.undirected e.inward) numbers _ none (way_lacks e.undirected e.inward) (sym is ∙ same ∙ edge_parts e)

pub no_way : (word way numbers : List ℕ) → word ≡ way ++ 58 ∷ numbers → HasNo 58 way → ((undirected inward : Bool) → way ≢ way_text undirected inward) → (e : EdgeLine) → IsEdgeLine e → word ≢ edge_text e
no_way word way numbers is none wrong e fits same = wrong e.undirected e.inward (edge_split word way numbers e is none same).0

pub no_numbers : (word way numbers : List ℕ) → word ≡ way ++ 58 ∷ numbers → HasNo 58 way → HasNo 58 numbers → (e : EdgeLine) → IsEdgeLine e → word ≢ edge_text e
no_numbers word way numbers is none lacks e fits same = no_split 58 (decimal e.source) (decimal e.ordinal ++ 58 ∷ decimal e.target) numbers lacks (edge_split word way numbers e is none same).1

pub no_edge_numbers : (word way numbers source rest : List ℕ) → word ≡ way ++ 58 ∷ numbers → HasNo 58 way → numbers ≡ source ++ 58 ∷ rest → HasNo 58 source → ((n : ℕ) → n < 2 ^ 64 → source ≢ decimal n) ⊎ ((m n : ℕ) → IsNumber m → IsNumber n → rest ≢ decimal m ++ 58 ∷ decimal n) → (e : EdgeLine) → IsEdgeLine e → word ≢ edge_text e
no_edge_numbers word way numbers source rest is none parts_is lacks wrong e fits same =
    let parts = edge_split word way numbers e is none same in
    let two = split_same 58 source (decimal e.source) rest (decimal e.ordinal ++ 58 ∷ decimal e.target) lacks (number_lacks 58 e.source (inr (omega arith)) fits.source) (sym parts_is ∙ parts.1) in
    elim wrong [ inl left ↦ left e.source fits.source two.0 | inr right ↦ right e.ordinal e.target fits.ordinal fits.target two.1 ]

pub edge_is : (word way numbers source rest : List ℕ) (e : EdgeLine) → word ≡ way ++ 58 ∷ numbers → way ≡ way_text e.undirected e.inward → numbers ≡ source ++ 58 ∷ rest → source ≡ decimal e.source → rest ≡ decimal e.ordinal ++ 58 ∷ decimal e.target → word ≡ edge_text e
edge_is word way numbers source rest e is way_is numbers_are source_is rest_is =
    is ∙ ap (λ (x : List ℕ). x ++ 58 ∷ numbers) way_is
    ∙ ap (λ (x : List ℕ). way_text e.undirected e.inward ++ 58 ∷ x) (numbers_are ∙ ap (λ (x : List ℕ). x ++ 58 ∷ rest) source_is ∙ ap (λ (x : List ℕ). decimal e.source ++ 58 ∷ x) rest_is)
    ∙ sym (edge_parts e)

-- ---- endings

-- a first word that is no ending's
pub no_ending_word : (w : List ℕ) (words : List (List ℕ)) → ((e : EndingWord) → w ≢ text_of_ending e) → (e : Ending) → IsEnding e → w ∷ words ≢ ending_words e
no_ending_word w words none (ending.Wrote k) fits same = none end.Wrote (cc)
no_ending_word w words none (ending.Read place) fits same = none end.Read (cc)
no_ending_word w words none ending.Aborted fits same = none end.Aborted (cc)
no_ending_word w words none (ending.Full rank place) fits same = none end.Full (cc)

-- a rank that is too large
pub no_rank : (words : List (List ℕ)) (rank place : ℕ) → words ≡ decimal rank ∷ decimal place ∷ [] → IsNumber rank → 2 ^ 16 ≤ rank → (r p : ℕ) → r < 2 ^ 16 → IsNumber p → words ≢ decimal r ∷ decimal p ∷ []
no_rank words rank place are fits large r p lt also same =
    let e : decimal rank ≡ decimal r = cc in
    let f : rank ≡ r = decimal_injective rank r fits (omega arith) e in
    absurd (omega arith)

-- ---- what is told where nothing was read

pub unread : {A : Type 0} (read : Option A) (P : Type 0) (Q : A → Type 0) → read ≡ None → MatchOption read P Q → P
unread {A} read P Q none told = subst (λ (o : Option A). MatchOption o P Q) none told

pub map_same : (xs : List (List ℕ)) → xs ≡ map (λ (x : List ℕ). x) xs
map_same [] = refl
map_same (x ∷ xs) = ap (λ (y : List (List ℕ)). x ∷ y) (map_same xs)
