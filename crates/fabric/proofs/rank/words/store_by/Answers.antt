use Rattle.fabric.proofs.Calls.{seat_call}
use Rattle.fabric.proofs.rank.words.store_by.Goals as goal

pub store-requires : goal.store-requires
store-requires g c =
    seat_call g.L.Law.fits _ _ _ (λ _. c.args.new)
    (λ before _ after. g.T.Telling.told before c.args.new after) c.args.word _ _ _ _ _ _
    c.window.view_is c.window.invariant c.requires.live c.requires.table c.requires.word
    c.number-number.ensures c.requires.permits
