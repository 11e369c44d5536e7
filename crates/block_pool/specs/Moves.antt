-- What looking for a block leaves as it was, and what it tells of heads.
use Rattle.std.specs.Prelude.{◌≡◌, ℕ, ◌-◌, ◌^◌, ◌<◌, List, [], ◌∷◌, ◌++◌, length}
use Rattle.std.specs.List.{AllByRecursion}
use mathlib.Core.List.{IsPrefix}
use Rattle.free_list.specs.Heads.{tag_of}
use Rattle.window_rule.specs.View.{View, Look, Miss}
use Rattle.window_rule.specs.Partition.{places_of}
use Rattle.window_rule.specs.RoomHolds.{count_on}

module _ {N : Type 0} where
  -- no block has moved: all that has changed is what the view has noted of heads
  abbrev pub Unmoved : View N → View N → Type 0
  Unmoved before after = after ≡ record before {
    notes = after.notes;
    bounds = after.bounds;
    misses = after.misses;
    looks = after.looks;
  }

  -- nothing has changed but the own blocks, what is known of them, and what was noted of heads
  abbrev pub OnlyTaken : View N → View N → Type 0
  OnlyTaken before after = after ≡ record before {
    private = after.private;
    cells = after.cells;
    notes = after.notes;
    bounds = after.bounds;
    misses = after.misses;
    looks = after.looks;
  }

  -- the last head of the rank that was loaded is this one. The view had as many blocks of its own
  -- there as before
  pub record Looked (home head : ℕ) (before after : View N) : Type 0 where
    pub earlier : List Look
    pub goes_on : IsPrefix before.looks earlier
    pub looks : after.looks ≡ earlier ++ record {
      rank = home;
      head = head;
      own_blocks = count_on home (places_of before.private);
    } ∷ []

  -- so many exchanges on the rank's head failed
  pub record Failed (home times : ℕ) (before after : View N) : Type 0 where
    pub gained : List Miss
    pub misses : after.misses ≡ before.misses ++ gained
    pub on_home : AllByRecursion (λ (miss : Miss). miss.rank ≡ home) gained
    pub as_many : length gained ≡ times

  -- and the last of them so
  pub record FailedLast (home loaded found : ℕ) (before after : View N) : Type 0 where
    pub earlier : List Miss
    pub goes_on : IsPrefix before.misses earlier
    pub misses : after.misses ≡ earlier
        ++ record { rank = home; loaded = loaded; found = found } ∷ []

-- no exchange is made on a head with the last tag
abbrev pub IsWorn : ℕ → Type 0
IsWorn head = tag_of head ≡ 2 ^ 44 - 1

abbrev pub IsUnworn : ℕ → Type 0
IsUnworn head = tag_of head < 2 ^ 44 - 1
