-- How the spares of two ranks become those of one: the chains of the other come before one's own.
use Rattle.std.specs.Prelude.{◌≡◌, ℕ, zero, suc, ◌==◌, ◌<◌, List, length, get_or, if◌then◌else◌}
use Rattle.object_words.specs.Blocks.{on_rank}
use Rattle.window_rule.specs.View.{View, OwnBlock}
use Rattle.window_rule.specs.Pool.{with_link}
use Rattle.window_rule.specs.Spares.{SpareEnds, first_spare_of, last_spare_of}

-- the other's last spare of this home rank leads on to one's own first, if the other has any there
abbrev pub chained_at : List ℕ → SpareEnds → ℕ → List OwnBlock → List OwnBlock
chained_at firsts theirs home own =
    if first_spare_of theirs home == 0 then own else with_link
    (on_rank home (last_spare_of theirs home)) (get_or firsts home 0) own

-- and so on each of the ranks below this one
abbrev pub chained : List ℕ → SpareEnds → ℕ → List OwnBlock → List OwnBlock
chained firsts theirs zero own = own
chained firsts theirs (suc home) own =
    chained_at firsts theirs home (chained firsts theirs home own)

-- the other's view, once its spares of so many ranks lead on to one's own
abbrev pub chained_view : {N : Type 0} → SpareEnds → SpareEnds → ℕ → View N → View N
chained_view mine theirs ranks view =
    record view { private = chained mine.firsts theirs ranks view.private }

-- the first of the one, or else of the other
abbrev pub one_or : ℕ → ℕ → ℕ
one_or one other = if one == 0 then other else one

-- on each home rank the other's first is the first, and one's own last the last
pub record AreTogether (mine theirs both : SpareEnds) : Type 0 where
  pub firsts_sized : length both.firsts ≡ 64
  pub lasts_sized : length both.lasts ≡ 64
  pub first : (home : ℕ) → home < 64
      → first_spare_of both home ≡ one_or (first_spare_of theirs home) (first_spare_of mine home)
  pub last : (home : ℕ) → home < 64
      → last_spare_of both home ≡ one_or (last_spare_of mine home) (last_spare_of theirs home)
