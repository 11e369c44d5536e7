-- Calls fit, and keep graphs well formed.
use Rattle.std.proofs.Common.{◌≡◌, Result, Ok, Err, OnOk, sym, subst}
use Rattle.gdi_kinds.specs.declared.call.Call.{Call}
use Rattle.gdi_kinds.specs.declared.call.Call.TheVariants.{NewLabel, NewType, Vertex as MakeVertex, Has, DropVertex, Tag, Untag, Tags, Set, Add, Get, Unset, Props, Edge as MakeEdge, UEdge, Cut, Target, ETag, EUntag, ETags, ESet, EAdd, EGet, EUnset, EProps, Edges, Near, Degree, Find, Hood, Levels, Parts, Scan, Vertices, Arcs}
use Rattle.rma_layout.specs.Shape.{Shape}
use Rattle.graph_model.specs.Graph.{Graph}
use Rattle.graph_model.specs.WellFormed.{IsWellFormed}
use Rattle.graph_model.specs.Calls.{graph_after_call}
use Rattle.graph_model.specs.Laws.{FitsCall}
use Rattle.graph_model.proofs.Leaving.{well_formed_call}
use Rattle.map_graph.specs.Plain.{IsAny}

pub any_call : (c : Call) → IsAny c
any_call (NewLabel name) = tt
any_call (NewType name kind many) = tt
any_call (MakeVertex id) = tt
any_call (Has id) = tt
any_call (DropVertex id) = tt
any_call (Tag id label) = tt
any_call (Untag id label) = tt
any_call (Tags id) = tt
any_call (Set id prop value) = tt
any_call (Add id prop value) = tt
any_call (Get id prop) = tt
any_call (Unset id prop) = tt
any_call (Props id) = tt
any_call (MakeEdge source target label) = tt
any_call (UEdge source target label) = tt
any_call (Cut source ordinal) = tt
any_call (Target source ordinal) = tt
any_call (ETag source ordinal label) = tt
any_call (EUntag source ordinal label) = tt
any_call (ETags source ordinal) = tt
any_call (ESet source ordinal prop value) = tt
any_call (EAdd source ordinal prop value) = tt
any_call (EGet source ordinal prop) = tt
any_call (EUnset source ordinal prop) = tt
any_call (EProps source ordinal) = tt
any_call (Edges id dir test) = tt
any_call (Near id dir) = tt
any_call (Degree id dir) = tt
any_call (Find label test) = tt
any_call (Hood id depth) = tt
any_call (Levels id) = tt
any_call Parts = tt
any_call (Scan label test) = tt
any_call Vertices = tt
any_call Arcs = tt

pub on_ok : {A E : Type 0} (r : Result A E) (P Q : Type 0) → (P → Q) → OnOk r P → OnOk r Q
on_ok (Ok x) P Q f p = f p
on_ok (Err e) P Q f p = tt

pub still_well : (shape : Shape) (g h : Graph) (call : Call) → IsWellFormed g → FitsCall call → h ≡ graph_after_call shape g call → IsWellFormed h
still_well shape g h call well fits is = subst IsWellFormed (sym is) (well_formed_call shape g call well fits)
