-- Calls that succeed, unless they would make an object too large.
use Rattle.std.proofs.Common.{◌≡◌, ℕ, Bool, true, false, cond, not, ◌||◌, List, [], ◌∷◌, ◌++◌, Option, Some, Ok, refl, sym, ap, subst, ◌∙◌, inl, inr}
use Rattle.std.specs.Prelude.{◌⊎◌}
use Rattle.std.specs.List.{AllByRecursion, list_any}
use Rattle.std.specs.Ordering.{is_eq}
use Rattle.std.specs.FinMap.Entries.{find, find-put}
use Rattle.std.specs.Cmp.{tied_itself}
use Rattle.std.proofs.lemmas.List.Folds.{list_any-append}
use Rattle.gdi_kinds.specs.declared.call.Call.{Call}
use Rattle.gdi_kinds.specs.declared.reply.Reply.{Reply}
use Rattle.gdi_kinds.specs.declared.reply.Reply.TheVariants as reply
use Rattle.rma_layout.specs.Shape.{Shape}
use Rattle.graph_model.specs.Graph.{Graph, Edge, EdgeKey, edge_cmp, edge_at, is_vertex}
use Rattle.graph_model.specs.Steps.{◌>>=◌, Step, Answer, found_or, refused_if, leaves, answer_of}
use Rattle.graph_model.specs.EdgeCalls.{with_edge, edge_or_refusal}
use Rattle.graph_model.specs.Calls.{steps_of, graph_after_call, reply_to}
use Rattle.graph_model.specs.Transactions.{graph_after_calls, replies_to_calls}
use Rattle.graph_model.proofs.Entries.{edge_cmp_total}
use Rattle.text_words.proofs.PrintLemmas.{all_append}
use Rattle.bulk_load.specs.Rows.{is_too_large, meets_limit}
use Rattle.bulk_load.specs.Laws.{is_success}
use Rattle.bulk_load.proofs.ApartLemmas.{neither}
use Rattle.bulk_load.proofs.LoadLemmas.{after_both}

abbrev pub AllSucceed : List Reply → Type 0
AllSucceed replies = AllByRecursion (λ r. is_success r ≡ true) replies

-- the reply is that an object would be too large, or the call succeeds and leaves such a graph
abbrev pub Succeeds : (Graph → Type 0) → Answer → Type 0
Succeeds Q answer = (is_too_large answer.reply ≡ true) ⊎ ((is_success answer.reply ≡ true) × Q answer.graph)

pub at_end : (Q : Graph → Type 0) (g h : Graph) (r : Reply) → is_success r ≡ true → Q h → Succeeds Q (answer_of g (leaves h r))
at_end Q g h r is holds = inr (is, holds)

pub if_ok : {A : Type 0} (Q : Graph → Type 0) (g : Graph) (s : Step A) (x : A) (next : A → Step Answer) → s ≡ Ok x
    → Succeeds Q (answer_of g (next x)) → Succeeds Q (answer_of g (s >>= next))
if_ok Q g s x next is holds = subst (λ o. Succeeds Q (answer_of g (o >>= next))) (sym is) holds

pub if_found : {A : Type 0} (Q : Graph → Type 0) (g : Graph) (refusal : Reply) (found : Option A) (x : A) (next : A → Step Answer) → found ≡ Some x
    → Succeeds Q (answer_of g (next x)) → Succeeds Q (answer_of g (found_or refusal found >>= next))
if_found Q g refusal found x next is holds = subst (λ o. Succeeds Q (answer_of g (found_or refusal o >>= next))) (sym is) holds

pub if_passed : (Q : Graph → Type 0) (g : Graph) (test : Bool) (refusal : Reply) (next : Unit {0} → Step Answer) → test ≡ false
    → Succeeds Q (answer_of g (next tt)) → Succeeds Q (answer_of g (refused_if test refusal >>= next))
if_passed Q g test refusal next is holds = subst (λ b. Succeeds Q (answer_of g (refused_if b refusal >>= next))) (sym is) holds

pub if_room : (Q : Graph → Type 0) (g : Graph) (test : Bool) (next : Unit {0} → Step Answer)
    → Succeeds Q (answer_of g (next tt)) → Succeeds Q (answer_of g (refused_if test reply.TooLarge >>= next))
if_room Q g true next holds = inl refl
if_room Q g false next holds = holds

pub if_edge : (Q : Graph → Type 0) (g : Graph) (source ordinal : ℕ) (e : Edge) (next : Edge → Step Answer) → is_vertex g source ≡ true → edge_at g source ordinal ≡ Some e
    → Succeeds Q (answer_of g (next e)) → Succeeds Q (answer_of g (edge_or_refusal g source ordinal >>= next))
if_edge Q g source ordinal e next from there holds =
    subst (λ b. Succeeds Q (answer_of g ((refused_if (not b) (reply.NoVertex source) >>= λ _. found_or reply.NoEdge (edge_at g source ordinal)) >>= next))) (sym from)
    (if_found Q g reply.NoEdge (edge_at g source ordinal) e next there holds)

-- from a graph of which P holds a call succeeds, if it has room, and then Q holds
abbrev pub CallGoes : Shape → (Graph → Type 0) → Call → (Graph → Type 0) → Type 0
CallGoes shape P call Q = (g : Graph) → P g → Succeeds Q (answer_of g (steps_of shape g call))

-- and so do calls one after the other
abbrev pub Go : Shape → (Graph → Type 0) → List Call → (Graph → Type 0) → Type 0
Go shape P calls Q = (g : Graph) → P g → meets_limit shape g calls ≡ false → AllSucceed (replies_to_calls shape g calls) × Q (graph_after_calls shape g calls)

pub none_go : (shape : Shape) (P : Graph → Type 0) → Go shape P [] P
none_go shape P g holds within = (tt, holds)

pub first_goes : (shape : Shape) (P Q R : Graph → Type 0) (call : Call) (calls : List Call) → CallGoes shape P call Q → Go shape Q calls R → Go shape P (call ∷ calls) R
first_goes shape P Q R call calls first rest g holds within =
    let split = neither (is_too_large (reply_to shape g call)) (meets_limit shape (graph_after_call shape g call) calls) within in
    elim (first g holds) [
      | inl full ↦ let no : true ≡ false = sym full ∙ split.0 in absurd (cc)
      | inr done ↦ let more = rest (graph_after_call shape g call) done.1 split.1 in ((done.0, more.0), more.1)
    ]

replies_both : (shape : Shape) (g : Graph) (xs ys : List Call)
    → replies_to_calls shape g (xs ++ ys) ≡ replies_to_calls shape g xs ++ replies_to_calls shape (graph_after_calls shape g xs) ys
replies_both shape g [] ys = refl
replies_both shape g (x ∷ xs) ys = ap (λ (rs : List Reply). reply_to shape g x ∷ rs) (replies_both shape (graph_after_call shape g x) xs ys)

pub all_replies : (shape : Shape) (g : Graph) (xs ys : List Call) → AllSucceed (replies_to_calls shape g xs) → AllSucceed (replies_to_calls shape (graph_after_calls shape g xs) ys)
    → AllSucceed (replies_to_calls shape g (xs ++ ys))
all_replies shape g xs ys one two = subst AllSucceed (sym (replies_both shape g xs ys)) (all_append (λ (r : Reply). is_success r ≡ true) _ _ one two)

pub both_go : (shape : Shape) (P Q R : Graph → Type 0) (xs ys : List Call) → Go shape P xs Q → Go shape Q ys R → Go shape P (xs ++ ys) R
both_go shape P Q R xs ys first rest g holds within =
    let h = graph_after_calls shape g xs in
    let limit : (meets_limit shape g xs || meets_limit shape h ys) ≡ false =
    sym (list_any-append is_too_large (replies_to_calls shape g xs) (replies_to_calls shape h ys)) ∙ ap (list_any is_too_large) (sym (replies_both shape g xs ys)) ∙ within in
    let split = neither (meets_limit shape g xs) (meets_limit shape h ys) limit in
    let one = first g holds split.0 in
    let two = rest h one.1 split.1 in
    (all_replies shape g xs ys one.0 two.0, subst R (sym (after_both shape g xs ys)) two.1)

-- a stronger start, and a weaker end
pub weaker_go : (shape : Shape) (P P2 Q Q2 : Graph → Type 0) (calls : List Call) → ((g : Graph) → P2 g → P g) → ((g : Graph) → Q g → Q2 g) → Go shape P calls Q → Go shape P2 calls Q2
weaker_go shape P P2 Q Q2 calls before after go g holds within =
    let done = go g (before g holds) within in
    (done.0, after (graph_after_calls shape g calls) done.1)

-- an edge is there where it was put
pub edge_put : (g : Graph) (source ordinal : ℕ) (e : Edge) → edge_at (with_edge g source ordinal e) source ordinal ≡ Some e
edge_put g source ordinal e =
    let key : EdgeKey = record { source = source; ordinal = ordinal } in
    find-put edge_cmp edge_cmp_total key key e g.edges ∙ ap (λ o. cond (is_eq o) (Some e) (find edge_cmp key g.edges)) (tied_itself edge_cmp_total key)
