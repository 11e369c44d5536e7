-- What a vertex's object is to hold, with a label or a property more or less. The contracts of private functions alone
-- cite these.
use Rattle.std.specs.Prelude.{ℕ, false, not, List, [], ◌∷◌, nat_lt, ◌==◌, if◌then◌else◌}
use Rattle.std.specs.List.{filter, list_any}
use Rattle.gdi_kinds.specs.declared.value.Value.{Value}
use Rattle.gdi_kinds.specs.declared.reply.Reply.TheVariants as reply
use Rattle.graph_model.specs.Maps.{has, add, take_out}
use Rattle.holder_codec.specs.declared.held_prop.HeldProp.{HeldProp}
use Rattle.holder_codec.specs.declared.vertex_holder.VertexHolder.{VertexHolder}
use Rattle.held_objects.specs.declared.change.Change.{Change}
use Rattle.held_objects.specs.declared.change.Change.TheVariants.{Refused, Made}

abbrev pub with_label : ℕ → VertexHolder → Change VertexHolder
with_label label holder =
    if has holder.labels label then Refused reply.HasLabel else Made (record holder { labels = add label holder.labels })

abbrev pub without_label : ℕ → VertexHolder → Change VertexHolder
without_label label holder =
    if has holder.labels label then Made (record holder { labels = take_out label holder.labels }) else Refused reply.LacksLabel

-- a value before those of greater types
abbrev pub put_prop : HeldProp → List HeldProp → List HeldProp
put_prop prop [] = prop ∷ []
put_prop prop (one ∷ ones) = if nat_lt prop.number one.number then prop ∷ one ∷ ones else one ∷ put_prop prop ones

-- values of other types alone
abbrev pub without_number : ℕ → List HeldProp → List HeldProp
without_number number props = filter (λ one. not (one.number == number)) props

abbrev pub with_value : ℕ → Value → VertexHolder → Change VertexHolder
with_value number value holder =
    Made (record holder { props = put_prop (record { number = number; many = false; value = value }) (without_number number holder.props) })

abbrev pub without_value : ℕ → VertexHolder → Change VertexHolder
without_value number holder =
    if list_any (λ one. one.number == number) holder.props then Made (record holder { props = without_number number holder.props })
    else Refused reply.NoProp
