-- How many blocks objects take, and how many are left.
use Rattle.std.specs.Prelude.{ℕ, zero, suc, ◌+◌, ◌-◌, ◌/◌, List, length, max, Bool, not, ◌&&◌, is_some, nat_lt, if◌then◌else◌}
use Rattle.rma_layout.specs.Shape.{Shape, reserved_blocks}
use Rattle.rma_layout.specs.Placement.{Place}
use Rattle.object_words.specs.Contents.{Contents, content_of, words_at, is_empty}

-- the blocks of so many words, of which each block takes some: 1 at least
abbrev pub blocks_for : ℕ → ℕ → ℕ
blocks_for words per_block = max 1 ((words + (per_block - 1)) / per_block)

-- the blocks of an object with these words. The first word of each block is the link
abbrev pub content_blocks : Shape → List ℕ → ℕ
content_blocks shape words = blocks_for (length words) (shape.words - 1)

abbrev pub is_reserved : Shape → ℕ → Bool
is_reserved shape block = nat_lt block (reserved_blocks shape)

-- the sum of a count over the numbers below n
unfoldable pub total_below : ℕ → (ℕ → ℕ) → ℕ
total_below zero count = 0
total_below (suc n) count = total_below n count + count n

abbrev pub on_rank : ℕ → ℕ → Place
on_rank rank block = record { rank = rank; block = block }

abbrev pub one_if : Bool → ℕ
one_if test = if test then 1 else 0

-- the blocks of the reserved and the non-empty objects of a rank
abbrev pub contents_use : Shape → Contents → ℕ → ℕ
contents_use shape contents rank = total_below shape.blocks (λ block.
    let words = content_of contents (on_rank rank block) in
    if not (is_reserved shape block) && is_empty words then 0 else content_blocks shape words)

-- the unreserved objects of a rank that are empty
abbrev pub empty_objects : Shape → Contents → ℕ → ℕ
empty_objects shape contents rank = total_below shape.blocks (λ block.
    one_if (not (is_reserved shape block) && is_empty (content_of contents (on_rank rank block))))

-- the unreserved objects of a rank that are empty and are written
abbrev pub made_objects : Shape → Contents → Contents → ℕ → ℕ
made_objects shape contents writes rank = total_below shape.blocks (λ block.
    one_if (not (is_reserved shape block) && is_empty (content_of contents (on_rank rank block)) && is_some (words_at writes (on_rank rank block))))

-- by how many blocks an object grows beyond the first block of a new one. One that is emptied, or stays empty, does not
abbrev pub growth : Shape → ℕ → List ℕ → List ℕ → ℕ
growth shape block before after =
    if is_reserved shape block then content_blocks shape after - content_blocks shape before
    else (if is_empty after then 0
    else (if is_empty before then content_blocks shape after - 1
    else content_blocks shape after - content_blocks shape before))

-- the growth of the objects of a rank that are written
abbrev pub grown_blocks : Shape → Contents → Contents → ℕ → ℕ
grown_blocks shape contents writes rank = total_below shape.blocks (λ block.
    let object = on_rank rank block in
    if is_some (words_at writes object) then growth shape block (content_of contents object) (content_of writes object) else 0)

-- what writes need on a rank: a block for each object that they make, and the growth
abbrev pub contents_need : Shape → Contents → Contents → ℕ → ℕ
contents_need shape contents writes rank = made_objects shape contents writes rank + grown_blocks shape contents writes rank
