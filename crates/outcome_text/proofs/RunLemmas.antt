-- What the lines of a run say, and what has been read of it.
use Rattle.std.proofs.Common.{◌≡◌, ◌≢◌, ℕ, Bool, true, false, List, [], ◌∷◌, ◌++◌, map, length, Option, Some, None, refl, sym, ap, subst, ◌∙◌, append_assoc, length-append, arith}
use Rattle.std.specs.Prelude.{codes}
use Rattle.std.specs.List.{flat_map, AllByRecursion}
use Rattle.std.specs.Fmt.{decimal}
use Rattle.std.proofs.lemmas.Bool.{false≢true}
use Rattle.std.proofs.lemmas.List.{append-nil, map-append}
use Rattle.std.proofs.lemmas.Grind.{flat_map-append}
use Rattle.gdi_kinds.specs.declared.reply.Reply.{Reply}
use Rattle.gdi_kinds.specs.declared.outcome.Outcome.{Outcome}
use Rattle.gdi_kinds.specs.declared.outcome.Outcome.TheVariants as outcome
use Rattle.gdi_kinds.specs.declared.outcome.Line.{Line}
use Rattle.gdi_kinds.specs.declared.outcome.Printed.{Printed}
use Rattle.text_words.proofs.PrintLemmas.{all_append}
use Rattle.outcome_text.specs.declared.said.Said.{Said}
use Rattle.outcome_text.specs.declared.said.Said.TheVariants as said
use Rattle.outcome_text.specs.declared.said.Head.{Head}
use Rattle.outcome_text.specs.declared.said.Ending.{Ending}
use Rattle.outcome_text.specs.declared.said.Ending.TheVariants as ending
use Rattle.outcome_text.specs.declared.output_reader.Reader.{Reader}
use Rattle.outcome_text.specs.Outputs.{reply_line, outcome_text, line_text, output_text}
use Rattle.outcome_text.specs.Runs.{IsReply, IsOutcome, IsLine, IsRun}
use Rattle.outcome_text.specs.WrongLine.{HasNoEnd}
use Rattle.outcome_text.specs.Reading.{HasNo, spaced_word, place_word, ending_words, IsEnding, IsSaid, said_line, said_text, replies_of, ending_of, said_of_line, open_said, said_in, takes_replies, is_open, may_stand, outcome_from, line_from, open_line, lines_in, with_said}
use Rattle.outcome_text.proofs.InverseLemmas.{split_same}
use Rattle.outcome_text.proofs.SayingLemmas.{said_no_end, line_same}

-- ---- a run as what its lines say

abbrev pub said_of_run : Printed → List Said
said_of_run run = flat_map said_of_line run.lines ++ said.Writes run.writes ∷ []

abbrev pub saids_text : List Said → List ℕ
saids_text ss = flat_map said_text ss

pub saids_text-append : (xs ys : List Said) → saids_text (xs ++ ys) ≡ saids_text xs ++ saids_text ys
saids_text-append xs ys = flat_map-append said_text xs ys

replies_text : (replies : List Reply) → saids_text (map said.Reply replies) ≡ flat_map reply_line replies
replies_text [] = refl
replies_text (r ∷ replies) = ap (λ (x : List ℕ). reply_line r ++ x) (replies_text replies)

head_text : (h : Head) → said_text (said.Head h) ≡ (decimal h.section ++ 46 ∷ decimal h.txn) ++ (flat_map spaced_word (ending_words h.ending) ++ 10 ∷ [])
head_text h = append_assoc (place_word h.section h.txn) (flat_map spaced_word (ending_words h.ending)) (10 ∷ [])

-- the text of an outcome is that of its ending and of its replies
outcome_parts : (o : Outcome) → (flat_map spaced_word (ending_words (ending_of o)) ++ 10 ∷ []) ++ flat_map reply_line (replies_of o) ≡ outcome_text o
outcome_parts (outcome.Wrote k replies) = simp append_assoc
outcome_parts (outcome.Read place replies) = simp append_assoc
outcome_parts outcome.Aborted = refl
outcome_parts (outcome.Full rank place) = append-nil _ ∙ ap (λ (x : List ℕ). codes " full " ++ (decimal rank ++ 32 ∷ x) ++ 10 ∷ []) (append-nil (decimal place))

line_parts : (line : Line) → saids_text (said_of_line line) ≡ line_text line
line_parts line =
    let h : Head = record { section = line.section; txn = line.txn; ending = ending_of line.outcome } in
    let first : List ℕ = decimal line.section ++ 46 ∷ decimal line.txn in
    let end : List ℕ = flat_map spaced_word (ending_words (ending_of line.outcome)) ++ 10 ∷ [] in
    ap (λ (x : List ℕ). x ++ saids_text (map said.Reply (replies_of line.outcome))) (head_text h)
    ∙ ap (λ (x : List ℕ). (first ++ end) ++ x) (replies_text (replies_of line.outcome))
    ∙ append_assoc first end (flat_map reply_line (replies_of line.outcome))
    ∙ ap (λ (x : List ℕ). first ++ x) (outcome_parts line.outcome)

lines_parts : (lines : List Line) → saids_text (flat_map said_of_line lines) ≡ flat_map line_text lines
lines_parts [] = refl
lines_parts (line ∷ lines) =
    saids_text-append (said_of_line line) (flat_map said_of_line lines)
    ∙ ap (λ (x : List ℕ). x ++ saids_text (flat_map said_of_line lines)) (line_parts line)
    ∙ ap (λ (x : List ℕ). line_text line ++ x) (lines_parts lines)

writes_text : (n : ℕ) → saids_text (said.Writes n ∷ []) ≡ codes "writes " ++ decimal n ++ 10 ∷ []
writes_text n = append-nil _ ∙ ap (λ (x : List ℕ). codes "writes " ++ x ++ 10 ∷ []) (append-nil (decimal n))

pub output_parts : (run : Printed) → output_text run ≡ saids_text (said_of_run run)
output_parts run =
    let last : List ℕ = codes "writes " ++ decimal run.writes ++ 10 ∷ [] in
    let same : flat_map line_text run.lines ++ last ≡ output_text run = simp append_assoc in
    sym (saids_text-append (flat_map said_of_line run.lines) (said.Writes run.writes ∷ [])
    ∙ ap (λ (x : List ℕ). x ++ saids_text (said.Writes run.writes ∷ [])) (lines_parts run.lines)
    ∙ ap (λ (x : List ℕ). flat_map line_text run.lines ++ x) (writes_text run.writes)
    ∙ same)

-- ---- what a run's lines say fits, and the way back

all_replies : (replies : List Reply) → AllByRecursion IsReply replies → AllByRecursion IsSaid (map said.Reply replies)
all_replies [] all = tt
all_replies (r ∷ replies) all = (all.0, all_replies replies all.1)

replies_all : (replies : List Reply) → AllByRecursion IsSaid (map said.Reply replies) → AllByRecursion IsReply replies
replies_all [] all = tt
replies_all (r ∷ replies) all = (all.0, replies_all replies all.1)

outcome_fits : (o : Outcome) → IsOutcome o → IsEnding (ending_of o) × AllByRecursion IsReply (replies_of o)
outcome_fits (outcome.Wrote k replies) fits = fits
outcome_fits (outcome.Read place replies) fits = fits
outcome_fits outcome.Aborted fits = (tt, tt)
outcome_fits (outcome.Full rank place) fits = (fits, tt)

line_saids : (line : Line) → IsLine line → AllByRecursion IsSaid (said_of_line line)
line_saids line fits =
    let parts = outcome_fits line.outcome fits.outcome in
    (record { section = fits.section; txn = fits.txn; ending = parts.0 }, all_replies (replies_of line.outcome) parts.1)

lines_saids : (lines : List Line) → AllByRecursion IsLine lines → AllByRecursion IsSaid (flat_map said_of_line lines)
lines_saids [] all = tt
lines_saids (line ∷ lines) all = all_append IsSaid (said_of_line line) (flat_map said_of_line lines) (line_saids line all.0) (lines_saids lines all.1)

pub run_saids : (run : Printed) → IsRun run → AllByRecursion IsSaid (said_of_run run)
run_saids run fits = all_append IsSaid (flat_map said_of_line run.lines) (said.Writes run.writes ∷ []) (lines_saids run.lines fits.lines) (fits.writes, tt)

pub all_front : {X : Type 0} (P : X → Type 0) (xs ys : List X) → AllByRecursion P (xs ++ ys) → AllByRecursion P xs
all_front P [] ys all = tt
all_front P (x ∷ xs) ys all = (all.0, all_front P xs ys all.1)

pub all_rest : {X : Type 0} (P : X → Type 0) (xs ys : List X) → AllByRecursion P (xs ++ ys) → AllByRecursion P ys
all_rest P [] ys all = all
all_rest P (x ∷ xs) ys all = all_rest P xs ys all.1

fits_outcome : (o : Outcome) → IsEnding (ending_of o) → AllByRecursion IsReply (replies_of o) → IsOutcome o
fits_outcome (outcome.Wrote k replies) fits all = (fits, all)
fits_outcome (outcome.Read place replies) fits all = (fits, all)
fits_outcome outcome.Aborted fits all = tt
fits_outcome (outcome.Full rank place) fits all = fits

saids_line : (line : Line) → AllByRecursion IsSaid (said_of_line line) → IsLine line
saids_line line all = record {
  section = all.0.section;
  txn = all.0.txn;
  outcome = fits_outcome line.outcome all.0.ending (replies_all (replies_of line.outcome) all.1);
}

pub saids_lines : (lines : List Line) → AllByRecursion IsSaid (flat_map said_of_line lines) → AllByRecursion IsLine lines
saids_lines [] all = tt
saids_lines (line ∷ lines) all =
    (saids_line line (all_front IsSaid (said_of_line line) (flat_map said_of_line lines) all), saids_lines lines (all_rest IsSaid (said_of_line line) (flat_map said_of_line lines) all))

-- what is read back from the right: the replies in front of the first head, the outcomes, and the number of entries
record Back : Type 0 where
  replies : List Reply
  lines : List Line
  writes : ℕ

abbrev with_back : Said → Back → Back
with_back (said.Head h) b = record { replies = []; lines = line_from h b.replies ∷ b.lines; writes = b.writes }
with_back (said.Reply r) b = record { replies = r ∷ b.replies; lines = b.lines; writes = b.writes }
with_back (said.Writes n) b = record { replies = []; lines = []; writes = n }

abbrev back_from : List Said → Back
back_from [] = record { replies = []; lines = []; writes = 0 }
back_from (s ∷ ss) = with_back s (back_from ss)

back_replies : (replies : List Reply) (rest : List Said) → back_from (map said.Reply replies ++ rest) ≡ record { replies = replies ++ (back_from rest).replies; lines = (back_from rest).lines; writes = (back_from rest).writes }
back_replies [] rest = refl
back_replies (r ∷ replies) rest = ap (with_back (said.Reply r)) (back_replies replies rest)

outcome_back : (o : Outcome) → outcome_from (ending_of o) (replies_of o) ≡ o
outcome_back (outcome.Wrote k replies) = refl
outcome_back (outcome.Read place replies) = refl
outcome_back outcome.Aborted = refl
outcome_back (outcome.Full rank place) = refl

line_back : (line : Line) (rest : List Said) → (back_from rest).replies ≡ [] → back_from (said_of_line line ++ rest) ≡ record { replies = []; lines = line ∷ (back_from rest).lines; writes = (back_from rest).writes }
line_back line rest none =
    let h : Head = record { section = line.section; txn = line.txn; ending = ending_of line.outcome } in
    let replies : replies_of line.outcome ++ (back_from rest).replies ≡ replies_of line.outcome = ap (λ (x : List Reply). replies_of line.outcome ++ x) none ∙ append-nil (replies_of line.outcome) in
    let F : List Reply → Back = λ rs. record { replies = []; lines = line_from h rs ∷ (back_from rest).lines; writes = (back_from rest).writes } in
    let G : Outcome → Back = λ o. record { replies = []; lines = record { section = line.section; txn = line.txn; outcome = o } ∷ (back_from rest).lines; writes = (back_from rest).writes } in
    ap (with_back (said.Head h)) (back_replies (replies_of line.outcome) rest) ∙ ap F replies ∙ ap G (outcome_back line.outcome)

lines_back : (lines : List Line) (n : ℕ) → back_from (flat_map said_of_line lines ++ said.Writes n ∷ []) ≡ record { replies = []; lines = lines; writes = n }
lines_back [] n = refl
lines_back (line ∷ lines) n =
    let rest : List Said = flat_map said_of_line lines ++ said.Writes n ∷ [] in
    let more : back_from rest ≡ record { replies = []; lines = lines; writes = n } = lines_back lines n in
    let F : Back → Back = λ b. record { replies = []; lines = line ∷ b.lines; writes = b.writes } in
    ap back_from (append_assoc (said_of_line line) (flat_map said_of_line lines) (said.Writes n ∷ []))
    ∙ line_back line rest (ap (λ (b : Back). b.replies) more) ∙ ap F more

-- a run is what its lines say
pub run_same : (run other : Printed) → said_of_run run ≡ said_of_run other → run ≡ other
run_same run other same =
    let e : back_from (said_of_run run) ≡ back_from (said_of_run other) = ap back_from same in
    let f = sym (lines_back run.lines run.writes) ∙ e ∙ lines_back other.lines other.writes in
    let lines : run.lines ≡ other.lines = ap (λ (b : Back). b.lines) f in
    let writes : run.writes ≡ other.writes = ap (λ (b : Back). b.writes) f in
    ap (λ (x : List Line). let p : Printed = record { lines = x; writes = run.writes } in p) lines
    ∙ ap (λ (x : ℕ). let p : Printed = record { lines = other.lines; writes = x } in p) writes

-- ---- what may follow what

-- between outcomes and replies, whether a reply may stand; nothing behind the last line
abbrev At : Type 0
At = Option Bool

abbrev may : At → Said → Bool
may None s = false
may (Some opened) s = may_stand opened s

abbrev next : At → Said → At
next at (said.Head h) = Some (takes_replies h.ending)
next at (said.Reply r) = at
next at (said.Writes n) = None

abbrev Goes : At → List Said → Type 0
Goes at [] = Unit {0}
Goes at (s ∷ ss) = (may at s ≡ true) × Goes (next at s) ss

abbrev end_of : At → List Said → At
end_of at [] = at
end_of at (s ∷ ss) = end_of (next at s) ss

end-append : (at : At) (xs ys : List Said) → end_of at (xs ++ ys) ≡ end_of (end_of at xs) ys
end-append at [] ys = refl
end-append at (s ∷ xs) ys = end-append (next at s) xs ys

goes_on : (at : At) (xs ys : List Said) → Goes at (xs ++ ys) → Goes (end_of at xs) ys
goes_on at [] ys goes = goes
goes_on at (s ∷ xs) ys goes = goes_on (next at s) xs ys goes.1

replies_go : (replies : List Reply) (rest : List Said) → Goes (Some true) rest → Goes (Some true) (map said.Reply replies ++ rest)
replies_go [] rest goes = goes
replies_go (r ∷ replies) rest goes = (refl, replies_go replies rest goes)

outcome_goes : (o : Outcome) (rest : List Said) → ((opened : Bool) → Goes (Some opened) rest) → Goes (Some (takes_replies (ending_of o))) (map said.Reply (replies_of o) ++ rest)
outcome_goes (outcome.Wrote k replies) rest goes = replies_go replies rest (goes true)
outcome_goes (outcome.Read place replies) rest goes = replies_go replies rest (goes true)
outcome_goes outcome.Aborted rest goes = goes false
outcome_goes (outcome.Full rank place) rest goes = goes false

lines_go : (lines : List Line) (n : ℕ) (opened : Bool) → Goes (Some opened) (flat_map said_of_line lines ++ said.Writes n ∷ [])
lines_go [] n opened = (refl, tt)
lines_go (line ∷ lines) n opened =
    let rest : List Said = flat_map said_of_line lines ++ said.Writes n ∷ [] in
    let more : Goes (Some opened) (said_of_line line ++ rest) = (refl, outcome_goes line.outcome rest (λ o. lines_go lines n o)) in
    subst (Goes (Some opened)) (sym (append_assoc (said_of_line line) (flat_map said_of_line lines) (said.Writes n ∷ []))) more

run_goes : (run : Printed) → Goes (Some false) (said_of_run run)
run_goes run = lines_go run.lines run.writes false

-- an outcome without replies has none, and in front of the first outcome stands nothing
pub record IsWhole (lines : List Line) (head : Option Head) (replies : List Reply) : Type 0 where
  pub first : head ≡ None → lines ≡ []
  pub closed : is_open head ≡ false → replies ≡ []

replies_end : (at : At) (replies : List Reply) → end_of at (map said.Reply replies) ≡ at
replies_end at [] = refl
replies_end at (r ∷ replies) = replies_end at replies

pub reader_end : (r : Reader) → IsWhole r.lines r.head r.replies → end_of (Some false) (said_in r) ≡ Some (is_open r.head)
reader_end r whole = at r.head whole.first
  where
    at : (head : Option Head) → (head ≡ None → r.lines ≡ []) → end_of (Some false) (flat_map said_of_line r.lines ++ open_said head r.replies) ≡ Some (is_open head)
    at None first = ap (λ (x : List Line). end_of (Some false) (flat_map said_of_line x ++ [])) (first refl)
    at (Some h) first = end-append (Some false) (flat_map said_of_line r.lines) (said.Head h ∷ map said.Reply r.replies) ∙ replies_end (Some (takes_replies h.ending)) r.replies

-- what a run says behind what has been read may stand there
pub run_stands : (run : Printed) (r : Reader) (s : Said) (more : List Said) → IsWhole r.lines r.head r.replies → said_of_run run ≡ said_in r ++ s ∷ more → may_stand (is_open r.head) s ≡ true
run_stands run r s more whole same =
    let goes : Goes (end_of (Some false) (said_in r)) (s ∷ more) = goes_on (Some false) (said_in r) (s ∷ more) (subst (Goes (Some false)) same (run_goes run)) in
    (subst (λ (at : At). Goes at (s ∷ more)) (reader_end r whole) goes).0

-- a run says more than has been read
pub run_goes_on : (run : Printed) (r : Reader) → IsWhole r.lines r.head r.replies → said_of_run run ≢ said_in r
run_goes_on run r whole same =
    let all : end_of (Some false) (said_of_run run) ≡ None = end-append (Some false) (flat_map said_of_line run.lines) (said.Writes run.writes ∷ []) in
    let e : None ≡ Some (is_open r.head) = sym all ∙ ap (end_of (Some false)) same ∙ reader_end r whole in
    absurd (cc)

-- and nothing behind its last line
pub run_ends : (run : Printed) (ss : List Said) (n : ℕ) (more : List Said) → said_of_run run ≡ (ss ++ said.Writes n ∷ []) ++ more → more ≡ []
run_ends run ss n [] same = refl
run_ends run ss n (s ∷ more) same =
    let goes : Goes (end_of (Some false) (ss ++ said.Writes n ∷ [])) (s ∷ more) = goes_on (Some false) (ss ++ said.Writes n ∷ []) (s ∷ more) (subst (Goes (Some false)) same (run_goes run)) in
    let e : end_of (Some false) (ss ++ said.Writes n ∷ []) ≡ None = end-append (Some false) ss (said.Writes n ∷ []) in
    absurd (false≢true (subst (λ (at : At). Goes at (s ∷ more)) e goes).0)

-- ---- texts that begin alike

no_end_lacks : (w : List ℕ) → HasNoEnd w → HasNo 10 w
no_end_lacks w none = none

text_front : (s : Said) (rest : List Said) → saids_text (s ∷ rest) ≡ said_line s ++ 10 ∷ saids_text rest
text_front s rest = append_assoc (said_line s) (10 ∷ []) (saids_text rest)

-- what says a text that begins with the text of lines says these lines first
pub says_first : (ss ts : List Said) (rest : List ℕ) → AllByRecursion IsSaid ss → AllByRecursion IsSaid ts → saids_text ts ≡ saids_text ss ++ rest → (more : List Said) × ((ts ≡ ss ++ more) × (rest ≡ saids_text more))
says_first [] ts rest a b same = (ts, (refl, sym same))
says_first (s ∷ ss) [] rest a b same =
    let e : [] ≡ said_line s ++ 10 ∷ (saids_text ss ++ rest) = same ∙ ap (λ (x : List ℕ). x ++ rest) (text_front s ss) ∙ append_assoc (said_line s) (10 ∷ saids_text ss) rest in
    absurd (omega (arith, ap length e, length-append (said_line s) (10 ∷ (saids_text ss ++ rest))))
says_first (s ∷ ss) (t ∷ ts) rest a b same =
    let e : said_line t ++ 10 ∷ saids_text ts ≡ said_line s ++ 10 ∷ (saids_text ss ++ rest) =
    sym (text_front t ts) ∙ same ∙ ap (λ (x : List ℕ). x ++ rest) (text_front s ss) ∙ append_assoc (said_line s) (10 ∷ saids_text ss) rest in
    let parts = split_same 10 (said_line t) (said_line s) (saids_text ts) (saids_text ss ++ rest) (said_no_end t b.0) (said_no_end s a.0) e in
    let first : t ≡ s = line_same t s b.0 a.0 parts.0 in
    let more = says_first ss ts rest a.1 b.1 parts.1 in
    (more.0, (let behind : ts ≡ ss ++ more.0 = more.1.0 in cc, more.1.1))

-- ---- what has been read with one line more

open_lines : (lines : List Line) (head : Option Head) (replies : List Reply) → IsWhole lines head replies → flat_map said_of_line (open_line head replies) ≡ open_said head replies
open_lines lines None replies whole = refl
open_lines lines (Some h) replies whole = at h.ending whole.closed
  where
    at : (e : Ending) → (takes_replies e ≡ false → replies ≡ []) → flat_map said_of_line (record { section = h.section; txn = h.txn; outcome = outcome_from e replies } ∷ []) ≡ said.Head (record { section = h.section; txn = h.txn; ending = e }) ∷ map said.Reply replies
    at (ending.Wrote k) closed = append-nil _
    at (ending.Read place) closed = append-nil _
    at ending.Aborted closed = ap (λ (x : List Reply). said.Head (record { section = h.section; txn = h.txn; ending = ending.Aborted }) ∷ map said.Reply x) (sym (closed refl))
    at (ending.Full rank place) closed = ap (λ (x : List Reply). said.Head (record { section = h.section; txn = h.txn; ending = ending.Full rank place }) ∷ map said.Reply x) (sym (closed refl))

-- the outcomes that have been read say what has been read
pub lines_said : (r : Reader) → IsWhole r.lines r.head r.replies → flat_map said_of_line (lines_in r) ≡ said_in r
lines_said r whole =
    flat_map-append said_of_line r.lines (open_line r.head r.replies) ∙ ap (λ (x : List Said). flat_map said_of_line r.lines ++ x) (open_lines r.lines r.head r.replies whole)

pub head_said_in : (r : Reader) (h : Head) → IsWhole r.lines r.head r.replies → said_in (with_said r (said.Head h)) ≡ said_in r ++ said.Head h ∷ []
head_said_in r h whole = ap (λ (x : List Said). x ++ said.Head h ∷ []) (lines_said r whole)

pub reply_said_in : (lines : List Line) (head : Option Head) (replies : List Reply) (x : Reply) → is_open head ≡ true → flat_map said_of_line lines ++ open_said head (replies ++ x ∷ []) ≡ (flat_map said_of_line lines ++ open_said head replies) ++ said.Reply x ∷ []
reply_said_in lines None replies x opened = absurd (false≢true opened)
reply_said_in lines (Some h) replies x opened =
    ap (λ (y : List Said). flat_map said_of_line lines ++ said.Head h ∷ y) (map-append said.Reply replies (x ∷ []))
    ∙ sym (append_assoc (flat_map said_of_line lines) (said.Head h ∷ map said.Reply replies) (said.Reply x ∷ []))
