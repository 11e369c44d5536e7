use Rattle.std.proofs.Common.{◌≡◌, ◌++◌, ◌∷◌, ◌+◌, [], true, false, map, take, drop, sym, ap, ◌∙◌, append_assoc}
use Rattle.std.specs.List.{list_any}
use Rattle.std.specs.Str.{bytes_eq}
use Rattle.std.proofs.lemmas.List.{take_more, take-append-drop, map-append}
use Rattle.holder_codec.specs.Reading.{are_distinct}
use Rattle.holder_codec.proofs.MetaLaws.{repeated, one_more, seen_more, from_not, from_not_false}
use Rattle.holder_codec.proofs.names.are_distinct.Goals as goal

pub returns-then-not-branch : goal.returns-then-not-branch
returns-then-not-branch g c =
    let name_of = g.N.Named.name_of in
    let items = c.args.items.now in
    let i = c.loop-item.item-index in
    let item = c.item-item.result in
    let names = map name_of (take i items) in
    let rest = map name_of (drop (i + 1) items) in
    let front = take_more items i item c.loop-item-test.true ∙ ap (λ x. take i items ++ x ∷ []) (sym c.item-item.is) in
    let whole : map name_of items ≡ names ++ name_of item ∷ rest =
    ap (map name_of) (sym (take-append-drop (i + 1) items) ∙ ap (λ xs. xs ++ drop (i + 1) items) front)
    ∙ (map-append name_of (take i items ++ item ∷ []) (drop (i + 1) items)
    ∙ (ap (λ ns. ns ++ rest) (map-append name_of (take i items) (item ∷ [])) ∙ append_assoc names (name_of item ∷ []) rest)) in
    let key : c.bytes.result.now ≡ name_of item = c.bytes.ensures.value ∙ c.name.ensures in
    let old : list_any (bytes_eq (name_of item)) names ≡ true =
    ap (λ n. list_any (bytes_eq n) names) (sym key) ∙ (sym (c.loop-item.invariant.seen c.bytes.result) ∙ from_not_false _ (sym c.in_ok-insert.ensures.added ∙ c.if-not-branch.true)) in
    sym (ap are_distinct whole ∙ repeated (name_of item) names rest old)

pub loop-item-preserved : goal.loop-item-preserved
loop-item-preserved g c =
    let name_of = g.N.Named.name_of in
    let items = c.args.items.now in
    let i = c.loop-item.item-index in
    let item = c.item-item.result in
    let names = map name_of (take i items) in
    let more : map name_of (take (i + 1) items) ≡ names ++ name_of item ∷ [] =
    ap (map name_of) (take_more items i item c.loop-item-test.true ∙ ap (λ x. take i items ++ x ∷ []) (sym c.item-item.is)) ∙ map-append name_of (take i items) (item ∷ []) in
    let key : c.bytes.result.now ≡ name_of item = c.bytes.ensures.value ∙ c.name.ensures in
    let new : list_any (bytes_eq (name_of item)) names ≡ false =
    ap (λ n. list_any (bytes_eq n) names) (sym key) ∙ (sym (c.loop-item.invariant.seen c.bytes.result) ∙ from_not _ (sym c.in_ok-insert.ensures.added ∙ c.if-not-branch.false)) in
    record {
      seen = λ name. c.in_ok-insert.ensures.updates.0 name ∙ (seen_more c.bytes.result.now name.now _ names (c.loop-item.invariant.seen name)
          ∙ (ap (λ n. list_any (bytes_eq name.now) (names ++ n ∷ [])) key ∙ ap (list_any (bytes_eq name.now)) (sym more)));
      once = ap are_distinct more ∙ one_more (name_of item) names new c.loop-item.invariant.once;
    }
