-- A drill's run in which nothing is refused for blocks.
use Rattle.std.proofs.Common.{◌≡◌, ℕ, ◌+◌, ◌<◌, Bool, true, false, not, cond, List, [], ◌∷◌, ◌++◌, map, length, Option, Some, None, is_some, if◌then◌else◌, refl, sym, ap, ◌∙◌, arith, true≢false}
use Rattle.std.specs.List.{flat_map, filter, range_with_len}
use Rattle.std.proofs.lemmas.List.{map-append}
use Rattle.gdi_kinds.specs.declared.reply.Reply.{Reply}
use Rattle.gdi_kinds.specs.declared.txn.Txn.{Txn}
use Rattle.gdi_kinds.specs.declared.outcome.Line.{Line}
use Rattle.gdi_kinds.specs.Calls.{is_writing}
use Rattle.rma_layout.specs.Shape.{Shape}
use Rattle.graph_model.specs.Graph.{Graph, empty_graph}
use Rattle.graph_model.specs.Transactions.{replies_to, graph_after_txn}
use Rattle.graph_model.specs.Capacity.{full_rank}
use Rattle.graph_model.specs.History.{load_entries}
use Rattle.graph_model.specs.Placed.{Placed, placed_from, sections_from, transactions_of}
use Rattle.graph_model.proofs.Short.{abort_never_full, looking_never_full}
use Rattle.serial_run.specs.Serial.{ends, graph_after_txns, graph_behind, next_entries, next_graph, outcome_on, run_after, serial_graph, serial_lines}
use Rattle.drill.specs.Drill.{drill_load, drill_script, section_of, step_of}
use Rattle.drill_run.specs.Summaries.{full_count, is_full}
use Rattle.drill_run.proofs.Behind.{both_write}
use Rattle.drill_run.proofs.Ranges.{eight, gone_round, in_section}

-- ---- where nothing is refused for blocks, all transactions are done

full_writes : (a w : Bool) (full : Option ℕ) (k : ℕ) (rs : List Reply) → (a ≡ true → full ≡ None) → (w ≡ false → full ≡ None) → is_full (ends a w full k rs) ≡ false → full ≡ None
full_writes true w full k rs aborts looks is = aborts refl
full_writes false false full k rs aborts looks is = looks refl
full_writes false true None k rs aborts looks is = refl
full_writes false true (Some rank) k rs aborts looks is = absurd (true≢false is)

not_full : (shape : Shape) (g : Graph) (k : ℕ) (txn : Txn) → is_full (outcome_on shape g k txn) ≡ false → full_rank shape g txn ≡ None
not_full shape g k txn is =
    full_writes txn.aborts (is_writing txn) (full_rank shape g txn) k (replies_to shape g txn) (λ aborts. abort_never_full shape g txn aborts) (λ looks. looking_never_full shape g txn (ap not looks)) is

all_done : (shape : Shape) (g : Graph) (k : ℕ) (ps : List Placed) → length (filter (λ line. is_full line.outcome) (serial_lines shape g k ps)) ≡ 0
    → serial_graph shape g ps ≡ graph_after_txns shape g (map (λ p. p.txn) ps)
all_done shape g k [] none = refl
all_done shape g k (p ∷ ps) none =
    let after = next_graph shape g p.txn in
    let next = next_entries shape g k p.txn in
    let rest : List Line = filter (λ line. is_full line.outcome) (serial_lines shape after next ps) in
    elim (is_full (outcome_on shape g k p.txn)) as (λ b. is_full (outcome_on shape g k p.txn) ≡ b
    → length (cond b ((record { section = p.section; txn = p.number; outcome = outcome_on shape g k p.txn }) ∷ rest) rest) ≡ 0 → serial_graph shape after ps ≡ graph_after_txns shape (graph_after_txn shape g p.txn) (map (λ p. p.txn) ps)) [
      | true ↦ λ _ wrong. absurd (omega (arith, wrong))
      | false ↦ λ is here.
          all_done shape after next ps here
          ∙ ap (λ (full : Option ℕ). graph_after_txns shape (if is_some full then g else graph_after_txn shape g p.txn) (map (λ p. p.txn) ps)) (not_full shape g k p.txn is)
    ] refl none

placed_txns : (section number : ℕ) (txns : List Txn) → map (λ p. p.txn) (placed_from section number txns) ≡ txns
placed_txns section number [] = refl
placed_txns section number (txn ∷ txns) = ap (λ l. txn ∷ l) (placed_txns section (number + 1) txns)

section_txns : (n seed section : ℕ) (ss : List ℕ) → map (λ p. p.txn) (sections_from section (map (section_of n seed) ss)) ≡ map (step_of n seed) (flat_map (in_section (range_with_len 0 n)) ss)
section_txns n seed section [] = refl
section_txns n seed section (s ∷ ss) =
    map-append (λ (p : Placed). p.txn) (placed_from section 1 (section_of n seed s)) (sections_from (section + 1) (map (section_of n seed) ss))
    ∙ ap (λ l. l ++ map (λ p. p.txn) (sections_from (section + 1) (map (section_of n seed) ss))) (placed_txns section 1 (section_of n seed s))
    ∙ ap (λ l. section_of n seed s ++ l) (section_txns n seed (section + 1) ss)
    ∙ sym (map-append (step_of n seed) (in_section (range_with_len 0 n) s) (flat_map (in_section (range_with_len 0 n)) ss))

-- the graph is that of the load and then of each vertex' step
pub steps_done : (shape : Shape) (n seed : ℕ) → 0 < n → full_count (run_after shape (drill_load n seed) (drill_script n seed)) ≡ 0
    → graph_behind shape (drill_load n seed) (drill_script n seed)
    ≡ graph_after_txns shape (graph_after_txns shape empty_graph (drill_load n seed)) (map (step_of n seed) (gone_round (range_with_len 0 n)))
steps_done shape n seed some none =
    let entries = load_entries (drill_load n seed) in
    let g = graph_after_txns shape empty_graph entries in
    all_done shape g (length entries) (transactions_of (drill_script n seed)) none
    ∙ ap (graph_after_txns shape g) (section_txns n seed 1 eight)
    ∙ ap (λ l. graph_after_txns shape (graph_after_txns shape empty_graph l) (map (step_of n seed) (gone_round (range_with_len 0 n)))) (both_write n seed some)
