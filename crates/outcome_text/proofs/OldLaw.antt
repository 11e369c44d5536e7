-- An output of the time before lists of values and undirected edges is the text of the same run in the whole grammar.
use Rattle.std.proofs.Common.{◌≡◌, ℕ, Bool, true, false, cond, List, [], ◌∷◌, ◌++◌, map, Option, Some, None, refl, sym, ap, ◌∙◌, append_assoc}
use Rattle.std.specs.Prelude.{codes}
use Rattle.std.specs.List.{flat_map}
use Rattle.std.specs.Option.{option_map}
use Rattle.std.specs.Fmt.{decimal}
use Rattle.std.proofs.lemmas.List.{append-nil, map-append}
use Rattle.gdi_kinds.specs.declared.edge_line.EdgeLine.{EdgeLine}
use Rattle.gdi_kinds.specs.declared.reply.Reply.{Reply}
use Rattle.gdi_kinds.specs.declared.reply.Reply.TheVariants as reply
use Rattle.gdi_kinds.specs.declared.outcome.Outcome.{Outcome}
use Rattle.gdi_kinds.specs.declared.outcome.Outcome.TheVariants as outcome
use Rattle.gdi_kinds.specs.declared.outcome.Line.{Line}
use Rattle.gdi_kinds.specs.declared.outcome.Printed.{Printed}
use Rattle.outcome_text.specs.declared.said.Said.{Said}
use Rattle.outcome_text.specs.declared.said.Said.TheVariants as said
use Rattle.outcome_text.specs.Outputs.{way_text, edge_text, reply_word, reply_items, output_text}
use Rattle.outcome_text.specs.WrongLine.{text_of_lines}
use Rattle.outcome_text.specs.Reading.{said_line, said_of_line, replies_of, ending_of, ending_words, place_word, spaced_word}
use Rattle.outcome_text.specs.OldOutputs.{old_edge, old_edges, with_item, old_reply, old_reply_line, old_outcome_lines, old_lines_of, old_lines, behind_spaces, OldOutputsStay, OldOutputsAreAll}
use Rattle.outcome_text.proofs.RunLemmas.{said_of_run, output_parts}
use Rattle.outcome_text.proofs.OutputLaw.{front_lines, prints_alone}

some_same : {A : Type 0} (x y : A) → Some x ≡ Some y → x ≡ y
some_same x y same = cc

-- the items of edges that had them are those of today
edge_then : (e : EdgeLine) (item : List ℕ) → old_edge e ≡ Some item → edge_text e ≡ item
edge_then e item had = at e.undirected e.inward had
  where
    at : (undirected inward : Bool) → cond undirected None (Some (cond inward (codes "in") (codes "out") ++ 58 ∷ decimal e.source ++ 58 ∷ decimal e.ordinal ++ 58 ∷ decimal e.target)) ≡ Some item → way_text undirected inward ++ 58 ∷ decimal e.source ++ 58 ∷ decimal e.ordinal ++ 58 ∷ decimal e.target ≡ item
    at true inward is = absurd (cc)
    at false inward is = some_same _ _ is

both_then : (item : Option (List ℕ)) (rest : Option (List (List ℕ))) (items : List (List ℕ)) → with_item item rest ≡ Some items → (x : List ℕ) × ((xs : List (List ℕ)) × ((item ≡ Some x) × (rest ≡ Some xs) × (x ∷ xs ≡ items)))
both_then None rest items both = absurd (cc)
both_then (Some x) None items both = absurd (cc)
both_then (Some x) (Some xs) items both = (x, (xs, (refl, refl, some_same _ _ both)))

edges_then : (lines : List EdgeLine) (items : List (List ℕ)) → old_edges lines ≡ Some items → map edge_text lines ≡ items
edges_then [] items had = some_same _ _ had
edges_then (line ∷ lines) items had =
    let parts = both_then (old_edge line) (old_edges lines) items had in
    let first : edge_text line ≡ parts.0 = edge_then line parts.0 parts.1.1.0 in
    let behind : map edge_text lines ≡ parts.1.0 = edges_then lines parts.1.0 parts.1.1.1 in
    let all : parts.0 ∷ parts.1.0 ≡ items = parts.1.1.2 in
    cc

-- the words of a reply that had them are those of today
reply_then : (r : Reply) (words : List (List ℕ)) → old_reply r ≡ Some words → reply_word r ∷ reply_items r ≡ words
reply_then reply.Done words had = some_same _ _ had
reply_then reply.Yes words had = some_same _ _ had
reply_then reply.No words had = some_same _ _ had
reply_then reply.Exists words had = some_same _ _ had
reply_then (reply.NoVertex id) words had = some_same _ _ had
reply_then reply.NoEdge words had = some_same _ _ had
reply_then reply.NoLabel words had = some_same _ _ had
reply_then reply.NoType words had = some_same _ _ had
reply_then reply.NoProp words had = some_same _ _ had
reply_then reply.WrongKind words had = some_same _ _ had
reply_then reply.NotMany words had = absurd (cc)
reply_then reply.HasLabel words had = some_same _ _ had
reply_then reply.LacksLabel words had = some_same _ _ had
reply_then reply.TooLarge words had = some_same _ _ had
reply_then (reply.EdgeIs source ordinal) words had = some_same _ _ had
reply_then (reply.Labels names) words had = some_same _ _ had
reply_then (reply.Props props) words had = some_same _ _ had
reply_then (reply.Value v) words had = some_same _ _ had
reply_then (reply.Values vs) words had = absurd (cc)
reply_then (reply.Edges lines) words had = parts (old_edges lines) refl had
  where
    parts : (items : Option (List (List ℕ))) → old_edges lines ≡ items → option_map (λ (xs : List (List ℕ)). codes "edges" ∷ xs) items ≡ Some words → codes "edges" ∷ map edge_text lines ≡ words
    parts None a both = absurd (cc)
    parts (Some items) a both =
        let same : map edge_text lines ≡ items = edges_then lines items a in
        ap (λ (xs : List (List ℕ)). codes "edges" ∷ xs) same ∙ some_same _ _ both
reply_then (reply.Ids ids) words had = some_same _ _ had
reply_then (reply.Levels pairs) words had = some_same _ _ had
reply_then (reply.Parts pairs) words had = some_same _ _ had
reply_then (reply.Count n) words had = some_same _ _ had

-- the line of what a line says, where it had one
abbrev old_said : Said → Option (List ℕ)
old_said (said.Head h) = Some (said_line (said.Head h))
old_said (said.Reply r) = old_reply_line r
old_said (said.Writes n) = Some (said_line (said.Writes n))

said_then : (s : Said) (line : List ℕ) → old_said s ≡ Some line → said_line s ≡ line
said_then (said.Head h) line had = some_same _ _ had
said_then (said.Writes n) line had = some_same _ _ had
said_then (said.Reply r) line had = parts (old_reply r) refl had
  where
    parts : (words : Option (List (List ℕ))) → old_reply r ≡ words → option_map behind_spaces words ≡ Some line → said_line (said.Reply r) ≡ line
    parts None a both = absurd (cc)
    parts (Some words) a both = ap behind_spaces (reply_then r words a) ∙ some_same _ _ both

saids_then : (ss : List Said) (lines : List (List ℕ)) → map old_said ss ≡ map Some lines → map said_line ss ≡ lines
saids_then [] [] had = refl
saids_then [] (line ∷ lines) had = absurd (cc)
saids_then (s ∷ ss) [] had = absurd (cc)
saids_then (s ∷ ss) (line ∷ lines) had =
    let first : said_line s ≡ line = said_then s line (cc) in
    let rest : map said_line ss ≡ lines = saids_then ss lines (cc) in
    cc

replies_said : (replies : List Reply) → map old_said (map said.Reply replies) ≡ map old_reply_line replies
replies_said [] = refl
replies_said (r ∷ replies) = ap (λ (x : List (Option (List ℕ))). old_reply_line r ∷ x) (replies_said replies)

-- the first line of an outcome
outcome_said : (place : List ℕ) (o : Outcome) → Some (place ++ flat_map spaced_word (ending_words (ending_of o))) ∷ map old_reply_line (replies_of o) ≡ old_outcome_lines place o
outcome_said place (outcome.Wrote k replies) =
    ap (λ (x : List ℕ). Some x ∷ map old_reply_line replies) (ap (λ (x : List ℕ). place ++ (codes " w " ++ x)) (append-nil (decimal k)) ∙ sym (append_assoc place (codes " w ") (decimal k)))
outcome_said place (outcome.Read n replies) =
    ap (λ (x : List ℕ). Some x ∷ map old_reply_line replies) (ap (λ (x : List ℕ). place ++ (codes " r " ++ x)) (append-nil (decimal n)) ∙ sym (append_assoc place (codes " r ") (decimal n)))
outcome_said place outcome.Aborted = refl
outcome_said place (outcome.Full rank n) =
    ap (λ (x : List ℕ). Some x ∷ []) (ap (λ (x : List ℕ). place ++ (codes " full " ++ (decimal rank ++ 32 ∷ x))) (append-nil (decimal n))
    ∙ sym (append_assoc place (codes " full ") (decimal rank ++ 32 ∷ decimal n)) ∙ sym (append_assoc (place ++ codes " full ") (decimal rank) (32 ∷ decimal n)))

line_said : (line : Line) → map old_said (said_of_line line) ≡ old_lines_of line
line_said line =
    let place : List ℕ = place_word line.section line.txn in
    ap (λ (x : List (Option (List ℕ))). Some (place ++ flat_map spaced_word (ending_words (ending_of line.outcome))) ∷ x) (replies_said (replies_of line.outcome)) ∙ outcome_said place line.outcome

lines_said : (lines : List Line) → map old_said (flat_map said_of_line lines) ≡ flat_map old_lines_of lines
lines_said [] = refl
lines_said (line ∷ lines) =
    map-append old_said (said_of_line line) (flat_map said_of_line lines)
    ∙ ap (λ (x : List (Option (List ℕ))). x ++ map old_said (flat_map said_of_line lines)) (line_said line)
    ∙ ap (λ (x : List (Option (List ℕ))). old_lines_of line ++ x) (lines_said lines)

run_said : (run : Printed) → map old_said (said_of_run run) ≡ old_lines run
run_said run =
    map-append old_said (flat_map said_of_line run.lines) (said.Writes run.writes ∷ [])
    ∙ ap (λ (x : List (Option (List ℕ))). x ++ Some (said_line (said.Writes run.writes)) ∷ []) (lines_said run.lines)
    ∙ ap (λ (x : List ℕ). flat_map old_lines_of run.lines ++ Some (codes "writes " ++ x) ∷ []) (append-nil (decimal run.writes))

-- the text of the lines that a run had is its text
text_then : (run : Printed) (lines : List (List ℕ)) → old_lines run ≡ map Some lines → text_of_lines lines ≡ output_text run
text_then run lines had =
    sym (ap text_of_lines (saids_then (said_of_run run) lines (run_said run ∙ had))) ∙ front_lines (said_of_run run) ∙ sym (output_parts run)

pub old_outputs_stay : OldOutputsStay
old_outputs_stay bytes run old = prints_alone run bytes (old.text ∙ text_then run old.lines old.had) old.fits

pub old_outputs_are_all : OldOutputsAreAll
old_outputs_are_all bytes run output had = record { fits = output.fits; lines = had.0; had = had.1; text = output.text ∙ sym (text_then run had.0 had.1) }
