use Rattle.std.proofs.Common.{◌≡◌, ◌∙◌, false, List, length, ap, arith}
use Rattle.std.specs.List.{insert, position_or_len}
use Rattle.gdi_kinds.specs.declared.value.Value.{Value}
use Rattle.holder_codec.specs.declared.held_prop.HeldProp.{HeldProp}
use Rattle.held_objects.specs.declared.change.Change.TheVariants.{Made}
use Rattle.vertex_ops.specs.Holders.{put_prop, without_number}
use Rattle.vertex_ops.proofs.PropLists.{goes_on, insert_at_first, place_within, prop_put}
use Rattle.vertex_ops.proofs.props.with_value.Goals as goal

pub insert-requires : goal.insert-requires
insert-requires c =
    let prop : HeldProp = record { number = c.args.number; many = false; value = c.in_ok-value.value } in
    let within = place_within (goes_on prop) c.as_slice.result.now in
    omega (arith, within, c.place_of-place.ensures, ap length c.as_slice.ensures.value)

pub returns-clause-made : goal.returns-clause-made
returns-clause-made c =
    let prop : HeldProp = record { number = c.args.number; many = false; value = c.in_ok-value.value } in
    let left = without_number c.args.number c.args.holder.props in
    let items : c.into_vec-props.result.items ≡ left = c.into_vec-props.ensures ∙ c.left_out.ensures in
    let place : c.place_of-place.result ≡ position_or_len (goes_on prop) left = c.place_of-place.ensures ∙ ap (position_or_len (goes_on prop)) (c.as_slice.ensures.value ∙ items) in
    let made : c.from_vec-props.result ≡ put_prop prop left = c.from_vec-props.ensures ∙ (c.in_ok-insert.ensures.items ∙ ((λ i. insert (items i) (place i) prop) ∙ insert_at_first prop left)) in
    ap (λ (ps : List HeldProp). Made (record c.args.holder { props = ps })) (made ∙ ap (λ (v : Value). put_prop (record { number = c.args.number; many = false; value = v }) left) c.in_ok-value.ensures.same)

pub returns-clause-is : goal.returns-clause-is
returns-clause-is c =
    let prop : HeldProp = record { number = c.args.number; many = false; value = c.in_ok-value.value } in
    let left = without_number c.args.number c.args.holder.props in
    let items : c.into_vec-props.result.items ≡ left = c.into_vec-props.ensures ∙ c.left_out.ensures in
    let place : c.place_of-place.result ≡ position_or_len (goes_on prop) left = c.place_of-place.ensures ∙ ap (position_or_len (goes_on prop)) (c.as_slice.ensures.value ∙ items) in
    let made : c.from_vec-props.result ≡ put_prop prop left = c.from_vec-props.ensures ∙ (c.in_ok-insert.ensures.items ∙ ((λ i. insert (items i) (place i) prop) ∙ insert_at_first prop left)) in
    prop_put c.args.holder prop c.from_vec-props.result made (record { number = omega arith; value = c.in_ok-value.ensures.value }) c.requires
