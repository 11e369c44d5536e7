-- What exchanges make of a head and of the list behind it.
use Rattle.std.specs.Prelude.{ℕ, List, [], ◌∷◌}
use Rattle.rma_layout.specs.Placement.{Place}
use Rattle.free_list.specs.Heads.{next_head}
use Rattle.free_list.specs.Lists.{number_to, behind}

pub data Exchange : Type 0 where
  -- the first block is taken
  Pop : Exchange
  -- a block is put in front
  Push : Place → Exchange

-- a head, and the list that it stands for
pub record Headed : Type 0 where
  pub head : ℕ
  pub list : List Place

abbrev pub after_exchange : Exchange → Headed → Headed
after_exchange Pop one =
    record { head = next_head one.head (number_to (behind one.list)); list = behind one.list }
after_exchange (Push block) one =
    record { head = next_head one.head block.block; list = block ∷ one.list }

-- the exchanges of all ranks, one after the other
abbrev pub after_exchanges : List Exchange → Headed → Headed
after_exchanges [] one = one
after_exchanges (exchange ∷ more) one = after_exchanges more (after_exchange exchange one)
