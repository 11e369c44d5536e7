use Rattle.rma_layout.proofs.PlaceLemmas.{bucket_of-ne-slot_of, bucket_of-ne-metadata, slot_of-ne-metadata}
use Rattle.rma_layout.proofs.laws.reserved_objects_differ.Goals as goal

pub returns-clause-bucket_and_slot : goal.returns-clause-bucket_and_slot
returns-clause-bucket_and_slot c = bucket_of-ne-slot_of

pub returns-clause-bucket_and_metadata : goal.returns-clause-bucket_and_metadata
returns-clause-bucket_and_metadata c = bucket_of-ne-metadata

pub returns-clause-slot_and_metadata : goal.returns-clause-slot_and_metadata
returns-clause-slot_and_metadata c = slot_of-ne-metadata
