-- An output is read to the run whose text it is, and a text that is none is refused at its first wrong line.
use Rattle.std.proofs.Common.{◌≡◌, ◌≢◌, ℕ, ◌+◌, ◌<◌, ◌≤◌, true, false, List, [], ◌∷◌, ◌++◌, map, length, None, refl, sym, ap, subst, ◌∙◌, append_assoc, length-append, arith}
use Rattle.std.specs.List.{flat_map, AllByRecursion}
use Rattle.std.proofs.lemmas.Bool.{false≢true}
use Rattle.std.proofs.lemmas.List.{append-nil, length-map}
use Rattle.std.proofs.lemmas.List.Folds.{flat_map-map}
use Rattle.gdi_kinds.specs.declared.outcome.Printed.{Printed}
use Rattle.text_words.proofs.PrintLemmas.{all_append}
use Rattle.outcome_text.specs.declared.said.Said.{Said}
use Rattle.outcome_text.specs.declared.said.Said.TheVariants as said
use Rattle.outcome_text.specs.declared.output_reader.Reader.{Reader}
use Rattle.outcome_text.specs.declared.output_reader.Passed.TheVariants as passed
use Rattle.outcome_text.specs.Outputs.{output_text}
use Rattle.outcome_text.specs.Runs.{IsNumber, IsRun, IsOutput, IsOutputAlone}
use Rattle.outcome_text.specs.WrongLine.{HasNoEnd, ended, text_of_lines, BeginsOutput, IsFirstWrong}
use Rattle.outcome_text.specs.Reading.{IsSaid, said_line, said_text, said_of_line, said_in, is_open, may_stand, lines_in, with_said, IsPassed}
use Rattle.outcome_text.proofs.InverseLemmas.{split_same, no_split}
use Rattle.outcome_text.proofs.SayingLemmas.{said_no_end}
use Rattle.outcome_text.proofs.RunLemmas.{said_of_run, saids_text, saids_text-append, output_parts, run_saids, saids_lines, all_front, run_same, IsWhole, run_stands, run_goes_on, run_ends, says_first, lines_said, head_said_in, reply_said_in}

-- ---- a run has one text, and no other run has it

pub output_alone : (bytes : List ℕ) (run other : Printed) → IsOutput bytes run → IsOutput bytes other → run ≡ other
output_alone bytes run other one two =
    let same : saids_text (said_of_run run) ≡ saids_text (said_of_run other) ++ [] =
    sym (output_parts run) ∙ sym one.text ∙ two.text ∙ output_parts other ∙ sym (append-nil (saids_text (said_of_run other))) in
    let first = says_first (said_of_run other) (said_of_run run) [] (run_saids other two.fits) (run_saids run one.fits) same in
    let none : first.0 ≡ [] = run_ends run (flat_map said_of_line other.lines) other.writes first.0 first.1.0 in
    run_same run other (first.1.0 ∙ ap (λ (x : List Said). said_of_run other ++ x) none ∙ append-nil (said_of_run other))

pub prints_alone : (run : Printed) (bytes : List ℕ) → bytes ≡ output_text run → IsRun run → IsOutputAlone bytes run
prints_alone run bytes is fits =
    let output : IsOutput bytes run = record { fits = fits; text = is } in
    record { output = output; alone = λ other also. output_alone bytes other run also output }

-- ---- a text that is being read

-- what has been read is what the lines in front of the rest say
pub record IsReading (bytes rest : List ℕ) (number : ℕ) (r : Reader) : Type 0 where
  pub text : bytes ≡ saids_text (said_in r) ++ rest
  pub count : number ≡ length (said_in r) + 1
  pub few : number + length rest ≤ length bytes + 1
  pub fits : AllByRecursion IsSaid (said_in r)
  pub whole : IsWhole r.lines r.head r.replies

pub reading_starts : (bytes : List ℕ) → IsReading bytes bytes 1 (record { lines = []; head = None; replies = [] })
reading_starts bytes = record { text = refl; count = refl; few = omega arith; fits = tt; whole = record { first = λ none. refl; closed = λ none. refl } }

-- one line more has been read
more_read : (bytes rest line after : List ℕ) (number : ℕ) (r now : Reader) (s : Said) → IsReading bytes rest number r → rest ≡ ended line ++ after → length after < length rest → IsSaid s → line ≡ said_line s → said_in now ≡ said_in r ++ s ∷ [] → IsWhole now.lines now.head now.replies → IsReading bytes after (number + 1) now
more_read bytes rest line after number r now s is cut shorter fits says more whole =
    let one : saids_text (s ∷ []) ≡ ended line = append-nil (said_text s) ∙ ap ended (sym says) in
    let text : bytes ≡ saids_text (said_in now) ++ after =
    is.text ∙ ap (λ (x : List ℕ). saids_text (said_in r) ++ x) cut ∙ sym (append_assoc (saids_text (said_in r)) (ended line) after)
    ∙ ap (λ (x : List ℕ). (saids_text (said_in r) ++ x) ++ after) (sym one) ∙ ap (λ (x : List ℕ). x ++ after) (sym (saids_text-append (said_in r) (s ∷ [])))
    ∙ ap (λ (x : List Said). saids_text x ++ after) (sym more) in
    let all : AllByRecursion IsSaid (said_in now) = subst (AllByRecursion IsSaid) (sym more) (all_append IsSaid (said_in r) (s ∷ []) is.fits (fits, tt)) in
    let was = is.count in
    let few = is.few in
    let count : number + 1 ≡ length (said_in now) + 1 = omega (arith, ap length more, length-append (said_in r) (s ∷ [])) in
    record { text = text; count = count; few = omega arith; fits = all; whole = whole }

pub reading_on : (bytes rest line after : List ℕ) (number : ℕ) (r now : Reader) → IsReading bytes rest number r → rest ≡ ended line ++ after → length after < length rest → IsPassed r line passed.On now → IsReading bytes after (number + 1) now
reading_on bytes rest line after number r now is cut shorter passed = at passed.0 passed.1
  where
    at : (s : Said) → IsSaid s × (line ≡ said_line s) × (may_stand (is_open r.head) s ≡ true) × ((n : ℕ) → s ≢ said.Writes n) × (now ≡ with_said r s) → IsReading bytes after (number + 1) now
    at (said.Writes n) on = absurd (on.3 n refl)
    at (said.Head h) on =
        let s : Said = said.Head h in
        let whole : IsWhole (with_said r s).lines (with_said r s).head (with_said r s).replies = record { first = λ none. absurd (cc); closed = λ none. refl } in
        subst (λ (x : Reader). IsReading bytes after (number + 1) x) (sym on.4) (more_read bytes rest line after number r (with_said r s) s is cut shorter on.0 on.1 (head_said_in r h is.whole) whole)
    at (said.Reply x) on =
        let s : Said = said.Reply x in
        let opened : is_open r.head ≡ true = on.2 in
        let whole : IsWhole (with_said r s).lines (with_said r s).head (with_said r s).replies = record { first = is.whole.first; closed = λ none. absurd (false≢true (sym none ∙ opened)) } in
        subst (λ (y : Reader). IsReading bytes after (number + 1) y) (sym on.4) (more_read bytes rest line after number r (with_said r s) s is cut shorter on.0 on.1 (reply_said_in r.lines r.head r.replies x opened) whole)

-- ---- the run that has been read

abbrev pub run_at : Reader → ℕ → Printed
run_at r n = record { lines = lines_in r; writes = n }

run_says : (r : Reader) (n : ℕ) → IsWhole r.lines r.head r.replies → said_of_run (run_at r n) ≡ said_in r ++ said.Writes n ∷ []
run_says r n whole = ap (λ (x : List Said). x ++ said.Writes n ∷ []) (lines_said r whole)

run_fits : (r : Reader) (n : ℕ) → IsWhole r.lines r.head r.replies → AllByRecursion IsSaid (said_in r) → IsNumber n → IsRun (run_at r n)
run_fits r n whole all lt = record { lines = saids_lines (lines_in r) (subst (AllByRecursion IsSaid) (sym (lines_said r whole)) all); writes = lt }

run_text : (r : Reader) (n : ℕ) → IsWhole r.lines r.head r.replies → output_text (run_at r n) ≡ saids_text (said_in r) ++ said_text (said.Writes n)
run_text r n whole =
    output_parts (run_at r n) ∙ ap saids_text (run_says r n whole) ∙ saids_text-append (said_in r) (said.Writes n ∷ [])
    ∙ ap (λ (x : List ℕ). saids_text (said_in r) ++ x) (append-nil (said_text (said.Writes n)))

-- the last line has been read, and nothing is left
pub reading_ends : (bytes rest line after : List ℕ) (number n : ℕ) (r : Reader) (run : Printed) → IsReading bytes rest number r → rest ≡ ended line ++ after → IsNumber n → line ≡ said_line (said.Writes n) → after ≡ [] → run ≡ run_at r n → IsOutput bytes run
reading_ends bytes rest line after number n r run is cut lt says none same =
    subst (IsOutput bytes) (sym same) (record {
      fits = run_fits r n is.whole is.fits lt;
      text = is.text ∙ ap (λ (x : List ℕ). saids_text (said_in r) ++ x) (cut ∙ ap (λ (x : List ℕ). ended line ++ x) none ∙ append-nil (ended line) ∙ ap ended says) ∙ sym (run_text r n is.whole);
    })

-- ---- what is wrong

-- the lines in front
pub front_lines : (ss : List Said) → text_of_lines (map said_line ss) ≡ saids_text ss
front_lines ss = flat_map-map ended said_line ss

no_ends : (ss : List Said) → AllByRecursion IsSaid ss → AllByRecursion HasNoEnd (map said_line ss)
no_ends [] all = tt
no_ends (s ∷ ss) all = (said_no_end s all.0, no_ends ss all.1)

-- what has been read begins an output, whatever is left
begins : (r : Reader) → IsWhole r.lines r.head r.replies → AllByRecursion IsSaid (said_in r) → BeginsOutput (saids_text (said_in r))
begins r whole all = record { run = run_at r 0; rest = said_text (said.Writes 0); fits = run_fits r 0 whole all (omega arith); text = run_text r 0 whole }

-- a run whose text goes on with a line says it next
says_next : (run : Printed) (ss : List Said) (line rest : List ℕ) → IsRun run → AllByRecursion IsSaid ss → HasNoEnd line → output_text run ≡ (saids_text ss ++ ended line) ++ rest → (s : Said) × ((more : List Said) × (IsSaid s × (line ≡ said_line s) × (said_of_run run ≡ ss ++ s ∷ more)))
says_next run ss line rest fits all none same =
    let e : saids_text (said_of_run run) ≡ saids_text ss ++ (line ++ 10 ∷ rest) =
    sym (output_parts run) ∙ same ∙ append_assoc (saids_text ss) (ended line) rest ∙ ap (λ (x : List ℕ). saids_text ss ++ x) (append_assoc line (10 ∷ []) rest) in
    let first = says_first ss (said_of_run run) (line ++ 10 ∷ rest) all (run_saids run fits) e in
    at first.0 first.1.0 first.1.1
  where
    at : (more : List Said) → said_of_run run ≡ ss ++ more → line ++ 10 ∷ rest ≡ saids_text more → (s : Said) × ((after : List Said) × (IsSaid s × (line ≡ said_line s) × (said_of_run run ≡ ss ++ s ∷ after)))
    at [] is text = absurd (no_split 10 line rest [] tt (sym text))
    at (s ∷ more) is text =
        let rests : AllByRecursion IsSaid (ss ++ s ∷ more) = subst (AllByRecursion IsSaid) is (run_saids run fits) in
        let good : IsSaid s = (Rattle.outcome_text.proofs.RunLemmas.all_rest IsSaid ss (s ∷ more) rests).0 in
        let parts = split_same 10 line (said_line s) rest (saids_text more) none (said_no_end s good) (text ∙ append_assoc (said_line s) (10 ∷ []) (saids_text more)) in
        (s, (more, (good, parts.0, is)))

-- a line that can't stand next, said of all runs
never_next : (r : Reader) (line : List ℕ) → IsWhole r.lines r.head r.replies → AllByRecursion IsSaid (said_in r) → HasNoEnd line → ((s : Said) → IsSaid s → line ≡ said_line s → may_stand (is_open r.head) s ≡ false) → ¬ BeginsOutput (saids_text (said_in r) ++ ended line)
never_next r line whole all none wrong begun =
    let next = says_next begun.run (said_in r) line begun.rest begun.fits all none begun.text in
    false≢true (sym (wrong next.0 next.1.1.0 next.1.1.1) ∙ run_stands begun.run r next.0 next.1.0 whole next.1.1.2)

-- and none stands behind the last one
never_behind_last : (ss : List Said) (n : ℕ) (line : List ℕ) → AllByRecursion IsSaid (ss ++ said.Writes n ∷ []) → HasNoEnd line → ¬ BeginsOutput (saids_text (ss ++ said.Writes n ∷ []) ++ ended line)
never_behind_last ss n line all none begun =
    let next = says_next begun.run (ss ++ said.Writes n ∷ []) line begun.rest begun.fits all none begun.text in
    let e : next.0 ∷ next.1.0 ≡ [] = run_ends begun.run ss n (next.0 ∷ next.1.0) next.1.1.2 in
    absurd (cc)

-- the first wrong line, where the lines in front of it say this
wrong_at : (bytes rest : List ℕ) (ss : List Said) → AllByRecursion IsSaid ss → bytes ≡ saids_text ss ++ rest → BeginsOutput (saids_text ss) → ((line more : List ℕ) → HasNoEnd line → rest ≡ ended line ++ more → ¬ BeginsOutput (saids_text ss ++ ended line)) → ((run : Printed) → ¬ IsOutput bytes run) → IsFirstWrong bytes (length ss + 1)
wrong_at bytes rest ss all is good wrong no_output =
    let front : text_of_lines (map said_line ss) ≡ saids_text ss = front_lines ss in
    record {
      before = map said_line ss;
      rest = rest;
      bytes_are = is ∙ ap (λ (x : List ℕ). x ++ rest) (sym front);
      lines = no_ends ss all;
      number_is = omega (arith, length-map ss said_line);
      good = subst BeginsOutput (sym front) good;
      wrong = λ line more none cut. subst (λ (x : List ℕ). ¬ BeginsOutput (x ++ ended line)) (sym front) (wrong line more none cut);
      no_output = no_output;
    }

-- where a line that begins the rest begins no output, the text is none
not_output : (bytes rest line after : List ℕ) (ss : List Said) → bytes ≡ saids_text ss ++ rest → rest ≡ ended line ++ after → ¬ BeginsOutput (saids_text ss ++ ended line) → (run : Printed) → ¬ IsOutput bytes run
not_output bytes rest line after ss is cut none run output =
    none (record {
      run = run;
      rest = after;
      fits = output.fits;
      text = sym output.text ∙ is ∙ ap (λ (x : List ℕ). saids_text ss ++ x) cut ∙ sym (append_assoc (saids_text ss) (ended line) after);
    })

-- one line and what follows it
same_line : (line other after more : List ℕ) → HasNoEnd line → HasNoEnd other → ended line ++ after ≡ ended other ++ more → line ≡ other
same_line line other after more a b same = (split_same 10 line other after more a b (sym (append_assoc line (10 ∷ []) after) ∙ same ∙ append_assoc other (10 ∷ []) more)).0

pub wrong_line : (bytes rest line after : List ℕ) (number : ℕ) (r now : Reader) → IsReading bytes rest number r → rest ≡ ended line ++ after → HasNoEnd line → IsPassed r line passed.Wrong now → IsFirstWrong bytes number
wrong_line bytes rest line after number r now is cut none wrong =
    let never : ¬ BeginsOutput (saids_text (said_in r) ++ ended line) = never_next r line is.whole is.fits none wrong in
    subst (IsFirstWrong bytes) (sym is.count) (wrong_at bytes rest (said_in r) is.fits is.text (begins r is.whole is.fits)
    (λ other more also same. subst (λ (x : List ℕ). ¬ BeginsOutput (saids_text (said_in r) ++ ended x)) (same_line line other after more none also (sym cut ∙ same)) never)
    (not_output bytes rest line after (said_in r) is.text cut never))

-- what has no LF begins with no line
no_line : (rest line more : List ℕ) → HasNoEnd rest → rest ≢ ended line ++ more
no_line rest line more none same = no_split 10 line more rest none (same ∙ append_assoc line (10 ∷ []) more)

pub wrong_end : (bytes rest : List ℕ) (number : ℕ) (r : Reader) → IsReading bytes rest number r → HasNoEnd rest → IsFirstWrong bytes number
wrong_end bytes rest number r is none =
    subst (IsFirstWrong bytes) (sym is.count) (wrong_at bytes rest (said_in r) is.fits is.text (begins r is.whole is.fits) (λ line more also same. absurd (no_line rest line more none same)) never)
  where
    ended_so : (run : Printed) (more : List Said) → said_of_run run ≡ said_in r ++ more → rest ≡ saids_text more → ⊥
    ended_so run [] same text = run_goes_on run r is.whole (same ∙ append-nil (said_in r))
    ended_so run (s ∷ more) same text = no_split 10 (said_line s) (saids_text more) rest none (text ∙ append_assoc (said_line s) (10 ∷ []) (saids_text more))

    never : (run : Printed) → ¬ IsOutput bytes run
    never run output =
        let first = says_first (said_in r) (said_of_run run) rest is.fits (run_saids run output.fits) (sym (output_parts run) ∙ sym output.text ∙ is.text) in
        ended_so run first.0 first.1.0 first.1.1

-- something stands behind the last line
pub wrong_behind : (bytes rest line after : List ℕ) (number n : ℕ) (r : Reader) → IsReading bytes rest number r → rest ≡ ended line ++ after → IsNumber n → line ≡ said_line (said.Writes n) → after ≢ [] → IsFirstWrong bytes (number + 1)
wrong_behind bytes rest line after number n r is cut lt says some =
    let ss : List Said = said_in r ++ said.Writes n ∷ [] in
    let all : AllByRecursion IsSaid ss = all_append IsSaid (said_in r) (said.Writes n ∷ []) is.fits (lt, tt) in
    let front : saids_text ss ≡ saids_text (said_in r) ++ said_text (said.Writes n) = saids_text-append (said_in r) (said.Writes n ∷ []) ∙ ap (λ (x : List ℕ). saids_text (said_in r) ++ x) (append-nil (said_text (said.Writes n))) in
    let text : bytes ≡ saids_text ss ++ after =
    is.text ∙ ap (λ (x : List ℕ). saids_text (said_in r) ++ x) (cut ∙ ap (λ (x : List ℕ). ended x ++ after) says) ∙ sym (append_assoc (saids_text (said_in r)) (said_text (said.Writes n)) after) ∙ ap (λ (x : List ℕ). x ++ after) (sym front) in
    let good : BeginsOutput (saids_text ss) = record { run = run_at r n; rest = []; fits = run_fits r n is.whole is.fits lt; text = run_text r n is.whole ∙ sym front ∙ sym (append-nil (saids_text ss)) } in
    let was = is.count in
    let count : number + 1 ≡ length ss + 1 = omega (arith, length-append (said_in r) (said.Writes n ∷ [])) in
    subst (IsFirstWrong bytes) (sym count) (wrong_at bytes after ss all text good (λ other more none same. never_behind_last (said_in r) n other all none) (never text all))
  where
    behind : (run : Printed) (more : List Said) → said_of_run run ≡ (said_in r ++ said.Writes n ∷ []) ++ more → after ≡ saids_text more → ⊥
    behind run more same text = some (text ∙ ap saids_text (run_ends run (said_in r) n more same))

    never : bytes ≡ saids_text (said_in r ++ said.Writes n ∷ []) ++ after → AllByRecursion IsSaid (said_in r ++ said.Writes n ∷ []) → (run : Printed) → ¬ IsOutput bytes run
    never text all run output =
        let first = says_first (said_in r ++ said.Writes n ∷ []) (said_of_run run) after all (run_saids run output.fits) (sym (output_parts run) ∙ sym output.text ∙ text) in
        behind run first.0 first.1.0 first.1.1

pub no_bytes : (xs : List ℕ) → length xs ≡ 0 → xs ≡ []
no_bytes [] none = refl
no_bytes (x ∷ xs) none = absurd (omega arith)
