use Rattle.std.proofs.Common.{◌≡◌, ◌+◌, ◌++◌, ◌∷◌, [], suc, false, length, take, drop, drop-cons, arith, ap, subst, sym, ◌∙◌}
use Rattle.std.proofs.lemmas.List.{take_more, take_all, drop_all}
use Rattle.std.specs.Option.{option_to_list}
use Rattle.graph_model.specs.Placed.{entry_number}
use Rattle.graph_model.specs.LegalRun.{numbers_of}
use Rattle.run_check.specs.Places.{NoneFails}
use Rattle.run_check.specs.Numbering.{HasSeen, Misnumbered, is_misnumbered}
use Rattle.run_check.proofs.Numbers.{is_numbered, none_before, first_later, numbers_more}
use Rattle.run_check.proofs.numbering.first_misnumbered.Goals as goal

pub loop-line-preserved : goal.loop-line-preserved
loop-line-preserved c =
    let i = c.loop-line.line-index in
    let items = c.as_slice-line-items.result.now in
    let line = c.line-item.result in
    let here = sym c.line-item.is in
    let next : suc i ≡ i + 1 = omega arith in
    let more = take_more items i line c.loop-line-test.true ∙ ap (λ l. take i items ++ l ∷ []) here in
    let rest = drop-cons items i line c.loop-line-test.true ∙ ap (λ l. l ∷ drop (suc i) items) here ∙ ap (λ n. line ∷ drop n items) next in
    let seen = c.loop-line.invariant.seen in
    let told : is_misnumbered c.args.load c.args.run.now.writes (numbers_of (take i items)) line.outcome ≡ false = grind (arith, c.in_ok-is_misnumbered.ensures.answer (numbers_of (take i items)) seen) in
    let right : ¬ Misnumbered c.args.load c.args.run.now.writes (take i items) line = λ wrong. grind (arith, told, wrong) in
    let after : HasSeen c.is_misnumbered.new.seen.keys (numbers_of (take i items) ++ option_to_list (entry_number line.outcome)) = c.in_ok-is_misnumbered.ensures.seen (numbers_of (take i items)) seen c.if-branch.false in
    record {
      seen = subst (HasSeen c.is_misnumbered.new.seen.keys) (sym (ap numbers_of more ∙ numbers_more (take i items) line)) after;
      none = λ later. c.loop-line.invariant.none (none_before _ _ _ _ _ line more rest right later);
      first = λ place later. c.loop-line.invariant.first place (first_later _ _ _ _ _ line place more rest right later);
    }

pub returns-then-run-load-2 : goal.returns-then-run-load-2
returns-then-run-load-2 c =
    let i = c.loop-line.line-index in
    let items = c.as_slice-line-items.result.now in
    let end : drop i items ≡ [] = drop_all i items c.loop-line-test.false in
    let all : NoneFails (Misnumbered c.args.load c.args.run.now.writes) [] items = c.loop-line.invariant.none (subst (NoneFails (Misnumbered c.args.load c.args.run.now.writes) (take i items)) (sym end) tt) in
    let none : NoneFails (Misnumbered c.args.load c.args.run.now.writes) [] c.args.run.now.lines = subst (NoneFails (Misnumbered c.args.load c.args.run.now.writes) []) c.as_slice-line-items.ensures all in
    let whole : take i items ≡ c.args.run.now.lines = take_all i items c.loop-line-test.false ∙ c.as_slice-line-items.ensures in
    let count : length c.loop-line.seen.keys ≡ length (numbers_of c.args.run.now.lines) = c.loop-line.invariant.seen.count ∙ ap (λ l. length (numbers_of l)) whole in
    is_numbered c.args.load c.args.run.now none (grind (arith, count))
