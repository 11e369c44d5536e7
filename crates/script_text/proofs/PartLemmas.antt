-- A script of which a part has been read.
use Rattle.std.proofs.Common.{◌≡◌, ℕ, ◌+◌, ◌<◌, ◌≤◌, Bool, true, false, not, cond, List, [], ◌∷◌, ◌++◌, map, length, refl, sym, ap, subst, ◌∙◌, append_assoc, length-append, arith, inl, inr}
use Rattle.std.specs.Prelude.{sum_by}
use Rattle.std.specs.List.{AllByRecursion}
use Rattle.std.proofs.lemmas.List.{append-nil, map-append}
use Rattle.std.proofs.lemmas.List.Sums.{sum_by-append}
use Rattle.std.proofs.lemmas.List.Elements.{filter-append}
use Rattle.std.proofs.lemmas.Grind.{flat_map-append}
use Rattle.gdi_kinds.specs.declared.txn.Txn.{Txn}
use Rattle.script_text.specs.declared.stop.Stop.{Stop}
use Rattle.script_text.specs.declared.stop.Stop.TheVariants as stop
use Rattle.script_text.specs.declared.step.Step.{Step}
use Rattle.script_text.specs.declared.place.Stage.{Stage}
use Rattle.script_text.specs.declared.place.Stage.TheVariants as stage
use Rattle.script_text.specs.declared.place.Place.{Place}
use Rattle.script_text.specs.declared.script_reader.Reader.{Reader}
use Rattle.text_words.specs.Lines.{lines_of}
use Rattle.script_text.specs.Scripts.{is_skipped, counted, line_of, steps_of_section, steps_of_script, IsTxn, Spells}
use Rattle.script_text.specs.Faults.{start, IsFault, IsWrongLine, IsOpen, OrNoMemory, IsFirstFault, AreGood}
use Rattle.script_text.specs.Reading.{TakesLine, PassesLine, StopsAt, TellsFault, refused_at, script_at}
use Rattle.script_text.proofs.ReadingLemmas.{steps_in, IsReading, taken, step_adds}

pub fault_is_wrong : (place : Place) (line : List ℕ) (s : Stop) → OrNoMemory (IsFault place.stage line) s → OrNoMemory (IsWrongLine place line) s
fault_is_wrong place line (stop.Bad kind) fault = inl fault
fault_is_wrong place line stop.NoMemory fault = tt

-- some lines have been read, and the rest is left
pub record IsPart (text rest : List ℕ) (number : ℕ) (r : Reader) : Type 0 where
  pub before : List (List ℕ)
  pub lines : lines_of text ≡ before ++ lines_of rest
  pub number_is : number ≡ length before + 1
  pub texts : counted before ≡ map line_of (steps_in r.place.stage r)
  pub reading : IsReading r
  pub room : length before + length rest ≤ length text

pub starts : (text : List ℕ) → IsPart text text 1 (record { place = start; sections = []; txns = []; calls = [] })
starts text = record {
  before = [];
  lines = refl;
  number_is = omega arith;
  texts = refl;
  reading = record { here = (refl, refl, refl, refl); few_sections = omega arith; few_txns = omega arith; sections = tt; txns = tt; fit = tt; leads = refl };
  room = omega arith;
}

counted-append : (xs ys : List (List ℕ)) → counted (xs ++ ys) ≡ counted xs ++ counted ys
counted-append xs ys = filter-append (λ (line : List ℕ). not (is_skipped line)) xs ys

-- a line behind those so far
lines_on : (text rest line after : List ℕ) (before : List (List ℕ)) → lines_of text ≡ before ++ lines_of rest → lines_of rest ≡ line ∷ lines_of after → lines_of text ≡ (before ++ line ∷ []) ++ lines_of after
lines_on text rest line after before lines first = lines ∙ ap (λ (ls : List (List ℕ)). before ++ ls) first ∙ sym (append_assoc before (line ∷ []) (lines_of after))

pub skips : (text rest line after : List ℕ) (number : ℕ) (r : Reader) → IsPart text rest number r → lines_of rest ≡ line ∷ lines_of after → length after < length rest → is_skipped line ≡ true → IsPart text after (number + 1) r
skips text rest line after number r was first shorter skipped =
    record {
      before = was.before ++ line ∷ [];
      lines = lines_on text rest line after was.before was.lines first;
      number_is = omega (arith, was.number_is, length-append was.before (line ∷ []));
      texts = counted-append was.before (line ∷ []) ∙ ap (λ (b : Bool). counted was.before ++ cond (not b) (line ∷ []) []) skipped ∙ append-nil (counted was.before) ∙ was.texts;
      reading = was.reading;
      room = omega (arith, was.room, length-append was.before (line ∷ []));
    }

goes : (text rest line after : List ℕ) (number : ℕ) (r : Reader) (s : Step) → IsPart text rest number r → lines_of rest ≡ line ∷ lines_of after → length after < length rest → is_skipped line ≡ false → line ≡ line_of s → (steps_in (taken r s).place.stage (taken r s) ≡ steps_in r.place.stage r ++ s ∷ []) × IsReading (taken r s) → IsPart text after (number + 1) (taken r s)
goes text rest line after number r s was first shorter counts is adds =
    record {
      before = was.before ++ line ∷ [];
      lines = lines_on text rest line after was.before was.lines first;
      number_is = omega (arith, was.number_is, length-append was.before (line ∷ []));
      texts = counted-append was.before (line ∷ []) ∙ ap (λ (b : Bool). counted was.before ++ cond (not b) (line ∷ []) []) counts
          ∙ ap (λ (ls : List (List ℕ)). ls ++ line ∷ []) was.texts
          ∙ ap (λ (l : List ℕ). map line_of (steps_in r.place.stage r) ++ l ∷ []) is
          ∙ sym (map-append line_of (steps_in r.place.stage r) (s ∷ []))
          ∙ ap (map line_of) (sym adds.0);
      reading = adds.1;
      room = omega (arith, was.room, length-append was.before (line ∷ []));
    }

pub takes : (text rest line after : List ℕ) (number : ℕ) (r now : Reader) → IsPart text rest number r → lines_of rest ≡ line ∷ lines_of after → length after < length rest → is_skipped line ≡ false → TakesLine r line now → IsPart text after (number + 1) now
takes text rest line after number r now was first shorter counts takes_line =
    let s = takes_line.step in
    let does = takes_line.does in
    subst (IsPart text after (number + 1)) (sym takes_line.now_is)
    (goes text rest line after number r s was first shorter counts does.text (step_adds r s was.reading does.fits does.stands takes_line.within))

pub passes : (text rest line after : List ℕ) (number : ℕ) (r now : Reader) → IsPart text rest number r → lines_of rest ≡ line ∷ lines_of after → length after < length rest → PassesLine r line now → IsPart text after (number + 1) now
passes text rest line after number r now was first shorter (inl (skipped, same)) = subst (IsPart text after (number + 1)) (sym same) (skips text rest line after number r was first shorter skipped)
passes text rest line after number r now was first shorter (inr (counts, takes_line)) = takes text rest line after number r now was first shorter counts takes_line

good : (text rest : List ℕ) (number : ℕ) (r : Reader) (was : IsPart text rest number r) → AreGood was.before r.place
good text rest number r was = record { steps = steps_in r.place.stage r; texts = was.texts; fit = was.reading.fit; leads = was.reading.leads }

pub is_stuck : (text rest line after : List ℕ) (number kind : ℕ) (r : Reader) → IsPart text rest number r → lines_of rest ≡ line ∷ lines_of after → StopsAt r.place line kind → IsFirstFault text number kind
is_stuck text rest line after number kind r was first wrong = record {
  before = was.before;
  rest = line ∷ lines_of after;
  place = r.place;
  lines = was.lines ∙ ap (λ (ls : List (List ℕ)). was.before ++ ls) first;
  number_is = was.number_is;
  good = good text rest number r was;
  wrong = wrong;
}

pub is_unclosed : (text : List ℕ) (number kind : ℕ) (r : Reader) → IsPart text [] number r → IsOpen r.place.stage × (kind ≡ 3) → IsFirstFault text number kind
is_unclosed text number kind r was wrong = record {
  before = was.before;
  rest = [];
  place = r.place;
  lines = was.lines;
  number_is = was.number_is;
  good = good text [] number r was;
  wrong = wrong;
}

all_push : {X : Type 0} (P : X → Type 0) (xs : List X) (x : X) → AllByRecursion P xs → P x → AllByRecursion P (xs ++ x ∷ [])
all_push P [] x all here = (here, tt)
all_push P (y ∷ ys) x all here = (all.0, all_push P ys x all.1 here)

abbrev pub at : Stage → Reader → Reader
at here r = record r { place = record r.place { stage = here } }

pub spelled_at : (here : Stage) (text : List ℕ) (r : Reader) → ¬ IsOpen here → IsReading (at here r) → counted (lines_of text) ≡ map line_of (steps_in here (at here r)) → Spells text (script_at here (at here r))
spelled_at stage.Outside text r closed was lines = record {
  form = record {
    few_sections = omega (arith, ap length was.here.1);
    few_txns = omega (arith, ap (sum_by length) was.here.1);
    txns = was.sections;
  };
  lines = lines;
}
spelled_at stage.Section text r closed was lines = record {
  form = record {
    few_sections = omega (arith, was.here.0, was.few_sections, length-append r.sections (r.txns ∷ []));
    few_txns = omega (arith, was.here.1, was.few_txns, sum_by-append length r.sections (r.txns ∷ []));
    txns = all_push (AllByRecursion IsTxn) r.sections r.txns was.sections was.txns;
  };
  lines = lines ∙ ap (map line_of) (ap (λ (xs : List Step). steps_of_script r.sections ++ xs) (sym (append-nil (steps_of_section r.txns))) ∙ sym (flat_map-append steps_of_section r.sections (r.txns ∷ [])));
}
spelled_at (stage.Txn whole) text r closed was lines = absurd (closed tt)

pub is_spelled : (text : List ℕ) (number : ℕ) (r : Reader) (script : List (List Txn)) → IsPart text [] number r → (script ≡ script_at r.place.stage r) × (¬ IsOpen r.place.stage) → Spells text script
is_spelled text number r script was ends =
    subst (Spells text) (sym ends.0) (spelled_at r.place.stage text r ends.1 was.reading (ap counted (was.lines ∙ append-nil was.before) ∙ was.texts))

-- what is told where reading stops
pub tells_line : (text rest line after : List ℕ) (number : ℕ) (r : Reader) (s : Stop) → IsPart text rest number r → lines_of rest ≡ line ∷ lines_of after → OrNoMemory (StopsAt r.place line) s → TellsFault text (refused_at number s)
tells_line text rest line after number r (stop.Bad kind) was first stops = is_stuck text rest line after number kind r was first stops
tells_line text rest line after number r stop.NoMemory was first stops = tt

pub tells_end : (text : List ℕ) (number : ℕ) (r : Reader) (s : Stop) → IsPart text [] number r → OrNoMemory (λ kind. IsOpen r.place.stage × (kind ≡ 3)) s → TellsFault text (refused_at number s)
tells_end text number r (stop.Bad kind) was stops = is_unclosed text number kind r was stops
tells_end text number r stop.NoMemory was stops = tt

-- ---- the end of the text

at_end : (text rest : List ℕ) (number : ℕ) (r : Reader) → IsPart text rest number r → length rest ≡ 0 → IsPart text [] number r
at_end text [] number r was none = was
at_end text (byte ∷ rest) number r was none = absurd (omega arith)

pub spelled_at_end : (text rest : List ℕ) (number : ℕ) (r : Reader) (script : List (List Txn)) → IsPart text rest number r → length rest ≡ 0 → (script ≡ script_at r.place.stage r) × (¬ IsOpen r.place.stage) → Spells text script
spelled_at_end text rest number r script was none ends = is_spelled text number r script (at_end text rest number r was none) ends

pub tells_at_end : (text rest : List ℕ) (number : ℕ) (r : Reader) (s : Stop) → IsPart text rest number r → length rest ≡ 0 → OrNoMemory (λ kind. IsOpen r.place.stage × (kind ≡ 3)) s → TellsFault text (refused_at number s)
tells_at_end text rest number r s was none stops = tells_end text number r s (at_end text rest number r was none) stops
