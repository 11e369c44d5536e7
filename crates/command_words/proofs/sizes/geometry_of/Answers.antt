use Rattle.command_words.proofs.sizes.geometry_of.Goals as goal

pub returns-in-Err : goal.returns-in-Err
returns-in-Err c = (
  record { ranks = c.in-Some.ranks; blocks = c.in-Some-number_or.blocks; words = c.in-Some-number_or-2.words; buckets = c.in-Some-number_or-3.buckets; slots = c.in-Some-number_or-4.slots },
  record {
    of_ranks = c.in-Some.ensures;
    of_blocks = c.in-Some-number_or.ensures;
    of_words = c.in-Some-number_or-2.ensures;
    of_buckets = c.in-Some-number_or-3.ensures;
    of_slots = c.in-Some-number_or-4.ensures;
  },
  c.in-Err.ensures,
)
