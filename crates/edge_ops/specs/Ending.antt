-- The objects of the two ends of an edge as the code holds them. The contracts of private functions alone cite this page.
use Rattle.std.specs.Prelude.{◌≡◌, ◌≢◌, ◌≤◌, ℕ, ◌+◌, Bool, true, ◌||◌, ◌==◌, List, length, false, Option, Some, None, is_none, MatchOption, MatchBool, if◌then◌else◌}
use Rattle.std.specs.Option.{option_map, option_map_or, unwrap_or}
use Rattle.gdi_kinds.specs.declared.reply.Reply.{Reply}
use Rattle.gdi_kinds.specs.declared.reply.Reply.TheVariants.{TooLarge}
use Rattle.rma_layout.specs.Placement.{Place}
use Rattle.object_words.specs.Contents.{Contents, with_words}
use Rattle.graph_model.specs.EdgeCalls.{ordinals_end}
use Rattle.graph_model.specs.Sizes.{most_words, is_too_large}
use Rattle.object_store.specs.State.{StoreState}
use Rattle.object_store.specs.Sound.{StaysBegun}
use Rattle.holder_codec.specs.declared.edge_record.EdgeRecord.{EdgeRecord}
use Rattle.holder_codec.specs.declared.vertex_holder.VertexHolder.{VertexHolder}
use Rattle.holder_codec.specs.Represents.{light_form}
use Rattle.holder_codec.specs.Vertex.{IsVertexHolder, vertex_words}
use Rattle.held_objects.specs.Held.{FindsHolder}
use Rattle.held_objects.specs.declared.change.Change.{Change}
use Rattle.held_objects.specs.declared.change.Change.TheVariants.{Refused, Made}
use Rattle.edge_ops.specs.declared.ends.Ends.{Ends}
use Rattle.edge_ops.specs.declared.ends.Spelling.{Spelling}
use Rattle.edge_ops.specs.Records.{with_record}

-- the holder at the target's object
abbrev pub target_of : Ends → VertexHolder
target_of ends = unwrap_or ends.target ends.source

pub record AreHolders (ends : Ends) : Type 0 where
  pub source : IsVertexHolder ends.source
  pub target : MatchOption ends.target (Unit {0}) IsVertexHolder

-- there is one object just where the two are one
abbrev pub AreOf : Place → Place → Ends → Type 0
AreOf source target ends = MatchOption ends.target (source ≡ target) (λ _. source ≢ target)

abbrev pub are_too_large : Ends → Bool
are_too_large ends =
    is_too_large (length (vertex_words ends.source)) || option_map_or (λ holder. is_too_large (length (vertex_words holder))) ends.target false

-- the words of the ends, unless one of them is too large
abbrev pub IsSpelling : Ends → Option Spelling → Type 0
IsSpelling ends None = are_too_large ends ≡ true
IsSpelling ends (Some words) =
    (are_too_large ends ≡ false) × (words.source ≡ vertex_words ends.source) × (words.target ≡ option_map vertex_words ends.target)

abbrev pub AreFew : Spelling → Type 0
AreFew words = (length words.source ≤ most_words) × MatchOption words.target (Unit {0}) (λ second. length second ≤ most_words)

-- first as the source, then as the target
abbrev pub ends_made : (VertexHolder → VertexHolder) → (VertexHolder → VertexHolder) → Ends → Ends
ends_made as_source as_target ends = record {
  source = if is_none ends.target then as_target (as_source ends.source) else as_source ends.source;
  target = option_map as_target ends.target;
}

abbrev pub holder_with_out : EdgeRecord → VertexHolder → VertexHolder
holder_with_out edge holder = record holder { next = holder.next + 1; edges = with_record edge holder.edges }

abbrev pub holder_with_in : EdgeRecord → VertexHolder → VertexHolder
holder_with_in edge holder = record holder { edges = with_record edge holder.edges }

-- the ends with a new edge with a label at most, unless the source has given out all ordinals
abbrev pub new_edge : Place → Place → List ℕ → Bool → Ends → Change Ends
new_edge source target labels undirected ends =
    let ordinal = ends.source.next in
    let form = light_form labels in
    if ordinal == ordinals_end then Refused TooLarge
    else Made (ends_made
    (holder_with_out (record { inward = false; undirected = undirected; ordinal = ordinal; other = (target_of ends).id; other_at = target; form = form }))
    (holder_with_in (record { inward = true; undirected = undirected; ordinal = ordinal; other = ends.source.id; other_at = source; form = form })) ends)

-- what was written at the two ends
abbrev pub written : Place → Place → List ℕ → Option (List ℕ) → Contents → Contents
written source target first second writes =
    option_map_or (λ words. with_words (with_words writes source first) target words) second (with_words writes source first)

module _ {N : Type 0} where
  -- the target's vertex is found too, unless it is the source's
  pub record FindsBeside (source target : Place) (from : VertexHolder) (old new : StoreState N) (ends : Ends) : Type 0 where
    pub source_is : ends.source ≡ from
    pub found : MatchOption ends.target ((source ≡ target) × (new ≡ old)) (λ to. (source ≢ target) × FindsHolder IsVertexHolder vertex_words target old new to)

  -- both ends are found
  pub record FindsEnds (source target : Place) (old new : StoreState N) (ends : Ends) : Type 0 where
    pub are_of : AreOf source target ends
    pub source_found : FindsHolder IsVertexHolder vertex_words source old new ends.source
    pub target_found : FindsHolder IsVertexHolder vertex_words target old new (target_of ends)

  pub record WritesWords (source target : Place) (words : Spelling) (old new : StoreState N) : Type 0 where
    pub reads : new.reads ≡ old.reads
    pub writes : new.writes ≡ written source target words.source words.target old.writes
    pub stays : StaysBegun old new

  pub record WritesEnds (source target : Place) (ends : Ends) (old new : StoreState N) : Type 0 where
    pub reads : new.reads ≡ old.reads
    pub writes : new.writes ≡ written source target (vertex_words ends.source) (option_map vertex_words ends.target) old.writes
    pub stays : StaysBegun old new

  -- the ends are given what was made, unless one of them is too large
  abbrev pub SettlesEnds : Place → Place → Reply → StoreState N → StoreState N → Change Ends → Reply → Type 0
  SettlesEnds source target wanted old new (Refused why) reply = (reply ≡ why) × (new ≡ old)
  SettlesEnds source target wanted old new (Made ends) reply =
      MatchBool (are_too_large ends) ((reply ≡ TooLarge) × (new ≡ old)) ((reply ≡ wanted) × WritesEnds source target ends old new)
