-- What the metadata object holds, and its one spelling.
use Rattle.std.specs.Prelude.{ℕ, List, map}
use Rattle.gdi_kinds.specs.Names.{IsName}
use Rattle.graph_model.specs.Graph.{PropType}
use Rattle.graph_model.specs.WellFormed.{AreNames}
use Rattle.holder_codec.specs.declared.type_line.TypeLine.{TypeLine}
use Rattle.holder_codec.specs.declared.meta_holder.MetaHolder.{MetaHolder}
use Rattle.holder_codec.specs.Holders.{type_words, names_words}

-- a type as the graph has it
abbrev pub type_of : TypeLine → PropType
type_of line = record { name = line.name; kind = line.kind; many = line.many }

abbrev pub line_words : TypeLine → List ℕ
line_words line = type_words (type_of line)

abbrev pub meta_words : MetaHolder → List ℕ
meta_words meta = names_words meta.labels (map type_of meta.types)

abbrev pub TypeFits : TypeLine → Type 0
TypeFits line = IsName line.name

-- what has a spelling: names, none of which stands twice
pub record IsMetaHolder (meta : MetaHolder) : Type 0 where
  pub labels : AreNames meta.labels
  pub types : AreNames (map (λ line. line.name) meta.types)
