-- What a record says and does.
use Rattle.std.proofs.Common.{◌≡◌, ℕ, Bool, true, false, not, List, [], ◌∷◌, ◌++◌, length, map, take, drop, refl, sym, ap, subst, ◌∙◌, append_assoc, arith, inr, ◌+◌, ◌-◌, ◌≤◌, length-append, Bor}
use Rattle.gdi_kinds.specs.declared.call.Call.{Call}
use Rattle.gdi_kinds.specs.declared.value.Value.{Value}
use Rattle.graph_model.specs.Graph.{Graph}
use Rattle.std.proofs.lemmas.List.{take_rest, drop-map, length-map}
use Rattle.rma_layout.specs.Shape.{Shape}
use Rattle.text_words.specs.Forms.{texts}
use Rattle.bulk_load.specs.Stops.{OrNoMemory}
use Rattle.bulk_load.specs.Fields.{Says, Sort, SpellColumns, FirstWrong, lead_sorts, some_values}
use Rattle.bulk_load.specs.declared.lead.Lead.{Lead}
use Rattle.bulk_load.specs.declared.lead.Lead.TheVariants as lead
use Rattle.bulk_load.specs.declared.load_fault.LoadFault.{LoadFault}
use Rattle.bulk_load.specs.declared.stop.Stop.{Stop}
use Rattle.bulk_load.specs.declared.stop.Stop.TheVariants as stop
use Rattle.bulk_load.specs.declared.owner.Owner.{Owner}
use Rattle.bulk_load.specs.declared.subject.Subject.{Subject}
use Rattle.bulk_load.specs.declared.subject.Subject.TheVariants as subject
use Rattle.bulk_load.specs.declared.header.Header.{Header}
use Rattle.bulk_load.specs.Records.{Fields}
use Rattle.bulk_load.specs.Rows.{SaysCalls, IsWrong, misspelled, sorts_of, making, puts, owner_of}

-- ---- the fault of a field behind those in front

pub behind_front : (at : Lead) (fields : Fields) (says : Subject) (behind : Fields) (sorts : List Sort) (told : LoadFault) → Says at fields says behind → FirstWrong sorts behind told → FirstWrong (lead_sorts at ++ sorts) fields told
behind_front lead.Vertices (a ∷ b ∷ fields) (subject.Vertex id labels) behind sorts told said wrong =
    inr ((id, said.0), inr ((labels, said.1), subst (λ (fs : Fields). FirstWrong sorts fs told) said.2 wrong))
behind_front lead.Edges (a ∷ b ∷ c ∷ fields) (subject.Edge undirected source target label) behind sorts told said wrong =
    inr ((source, said.0), inr ((target, said.1), inr ((label, said.2), subst (λ (fs : Fields). FirstWrong sorts fs told) said.4 wrong)))
behind_front lead.MarkedEdges (a ∷ b ∷ c ∷ d ∷ fields) (subject.Edge undirected source target label) behind sorts told said wrong =
    inr ((source, said.0), inr ((target, said.1), inr ((label, said.2), inr ((undirected, said.3), subst (λ (fs : Fields). FirstWrong sorts fs told) said.4 wrong))))
behind_front at fields says behind sorts told said wrong = absurd said

pub say_fails : (shape : Shape) (g : Graph) (header : Header) (fields behind : Fields) (says : Subject) (s : Stop) → length fields ≡ length (sorts_of header)
    → Says header.lead fields says behind → OrNoMemory (FirstWrong (map some_values header.columns) behind) s → OrNoMemory (IsWrong shape g header fields) s
say_fails shape g header fields behind says (stop.Bad told) count said wrong = misspelled count (behind_front header.lead fields says behind (map some_values header.columns) told said wrong)
say_fails shape g header fields behind says stop.NoMemory count said wrong = tt

-- the fields behind some in front
pub texts_rest : (n : ℕ) (fields : List (Bor (List ℕ))) → texts (take (length fields - n) (drop n fields)) ≡ drop n (texts fields)
texts_rest n fields = ap texts (take_rest fields n) ∙ sym (drop-map (λ (w : Bor (List ℕ)). w.now) n fields)

pub sorts_count : (header : Header) → length (sorts_of header) ≡ length (lead_sorts header.lead) + length header.columns
sorts_count header = length-append (lead_sorts header.lead) (map some_values header.columns) ∙ ap (λ (n : ℕ). length (lead_sorts header.lead) + n) (length-map header.columns some_values)

pub say_count : (header : Header) (fields : List (Bor (List ℕ))) (front n : ℕ) → front ≡ length (lead_sorts header.lead) → front ≤ length fields → length fields - front ≡ n → n ≡ length header.columns
    → length (texts fields) ≡ length (sorts_of header)
say_count header fields front n is some left columns =
    let whole : length (texts fields) ≡ length fields = length-map fields (λ (w : Bor (List ℕ)). w.now) in
    let sorts = sorts_count header in
    omega (arith, whole, sorts)

pub say_ends : (g : Graph) (header : Header) (fields behind : Fields) (says : Subject) (who : Owner) (calls mid after : List Call) → Says header.lead fields says behind
    → who ≡ owner_of g says → mid ≡ calls ++ making g says
    → (values : List (List Value)) × SpellColumns header.columns behind values × (after ≡ mid ++ puts who header.columns values)
    → (own : List Call) × SaysCalls g header fields says own × (after ≡ calls ++ own)
say_ends g header fields behind says who calls mid after said is made told = (
  making g says ++ puts (owner_of g says) header.columns told.0,
  record { behind = behind; values = told.0; front = said; columns = told.1; calls_are = refl },
  told.2 ∙ ap (λ (m : List Call). m ++ puts who header.columns told.0) made ∙ append_assoc calls (making g says) (puts who header.columns told.0)
      ∙ ap (λ (o : Owner). calls ++ (making g says ++ puts o header.columns told.0)) is,
)

-- the calls behind those before
pub own_part : (calls own all : List Call) (n : ℕ) → n ≡ length calls → all ≡ calls ++ own → take (length all - n) (drop n all) ≡ own
own_part calls own all n is split = take_rest all n ∙ rw (is, split) (drop_front calls own)
  where
    drop_front : (xs ys : List Call) → drop (length xs) (xs ++ ys) ≡ ys
    drop_front [] ys = refl
    drop_front (x ∷ xs) ys = drop_front xs ys

pub not_false : (b : Bool) → false ≡ not b → b ≡ true
not_false true e = refl
not_false false e = let e : false ≡ true = e in absurd (cc)

pub not_true : (b : Bool) → true ≡ not b → b ≡ false
not_true false e = refl
not_true true e = let e : true ≡ false = e in absurd (cc)
