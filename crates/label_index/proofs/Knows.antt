-- What is known of the index.
use Rattle.object_store.specs.State.{StoreState}
use Rattle.object_store.specs.Works.{Looks}
use Rattle.held_objects.specs.Knows.{Knows}
use Rattle.held_objects.proofs.Knows.{still}
use Rattle.label_index.specs.Entries.{Pair}
use Rattle.label_index.specs.Index.{Indexes, Lacks, Has, StaysKnown}

module _ {N : Type 0} {pair : Pair} {state : StoreState N} where
  pub lacks_indexes : Knows (Lacks pair) state → Knows Indexes state
  lacks_indexes knows = record { always = λ store may. let is = knows.always store may in record { entries = is.entries; indexed = is.indexed }; ordered = knows.ordered }

  pub has_indexes : Knows (Has pair) state → Knows Indexes state
  has_indexes knows = record { always = λ store may. let is = knows.always store may in record { entries = is.entries; indexed = is.indexed }; ordered = knows.ordered }

pub still_known : {N : Type 0} {IsSpared : Pair → Type 0} {old new : StoreState N} → Looks old new → StaysKnown IsSpared old new
still_known looks = record { lacks = λ pair _ knows. still looks knows; has = λ pair _ knows. still looks knows }
