-- What each call does to a graph, and its reply.
use Rattle.std.specs.Prelude.{true, false}
use Rattle.gdi_kinds.specs.declared.call.Call.{Call}
use Rattle.gdi_kinds.specs.declared.call.Call.TheVariants.{NewLabel, NewType, Vertex, Has, DropVertex, Tag, Untag, Tags, Set, Add, Get, Unset, Props, Edge, UEdge, Cut, Target, ETag, EUntag, ETags, ESet, EAdd, EGet, EUnset, EProps, Edges, Near, Degree, Find, Hood, Levels, Parts, Scan, Vertices, Arcs}
use Rattle.gdi_kinds.specs.declared.reply.Reply.{Reply}
use Rattle.rma_layout.specs.Shape.{Shape}
use Rattle.graph_model.specs.Graph.{Graph}
use Rattle.graph_model.specs.Steps.{Step, Answer, answer_of}
use Rattle.graph_model.specs.NameCalls as names
use Rattle.graph_model.specs.VertexCalls as vertex
use Rattle.graph_model.specs.EdgeCalls as edge
use Rattle.graph_model.specs.ListCalls as list
use Rattle.graph_model.specs.WholeCalls as whole

abbrev pub steps_of : Shape → Graph → Call → Step Answer
steps_of shape g (NewLabel name) = names.new_label g name
steps_of shape g (NewType name kind many) = names.new_type g name kind many
steps_of shape g (Vertex id) = vertex.make_vertex shape g id
steps_of shape g (Has id) = vertex.has_vertex g id
steps_of shape g (DropVertex id) = vertex.drop_vertex g id
steps_of shape g (Tag id label) = vertex.tag shape g id label
steps_of shape g (Untag id label) = vertex.untag g id label
steps_of shape g (Tags id) = vertex.tags g id
steps_of shape g (Set id prop value) = vertex.set_prop g id prop value
steps_of shape g (Add id prop value) = vertex.add_prop g id prop value
steps_of shape g (Get id prop) = vertex.get_prop g id prop
steps_of shape g (Unset id prop) = vertex.unset_prop g id prop
steps_of shape g (Props id) = vertex.props g id
steps_of shape g (Edge source target label) = edge.make_edge false g source target label
steps_of shape g (UEdge source target label) = edge.make_edge true g source target label
steps_of shape g (Cut source ordinal) = edge.cut g source ordinal
steps_of shape g (Target source ordinal) = edge.target g source ordinal
steps_of shape g (ETag source ordinal label) = edge.tag_edge g source ordinal label
steps_of shape g (EUntag source ordinal label) = edge.untag_edge g source ordinal label
steps_of shape g (ETags source ordinal) = edge.edge_tags g source ordinal
steps_of shape g (ESet source ordinal prop value) = edge.set_edge_prop g source ordinal prop value
steps_of shape g (EAdd source ordinal prop value) = edge.add_edge_prop g source ordinal prop value
steps_of shape g (EGet source ordinal prop) = edge.get_edge_prop g source ordinal prop
steps_of shape g (EUnset source ordinal prop) = edge.unset_edge_prop g source ordinal prop
steps_of shape g (EProps source ordinal) = edge.edge_props g source ordinal
steps_of shape g (Edges id dir test) = list.edges g id dir test
steps_of shape g (Near id dir) = list.near g id dir
steps_of shape g (Degree id dir) = list.degree g id dir
steps_of shape g (Find label test) = list.find g label test
steps_of shape g (Hood id depth) = whole.hood g id depth
steps_of shape g (Levels id) = whole.levels g id
steps_of shape g Parts = whole.parts g
steps_of shape g (Scan label test) = whole.scan g label test
steps_of shape g Vertices = whole.vertices g
steps_of shape g Arcs = whole.arcs g

-- the graph after a call, and its reply
abbrev pub answer_to : Shape → Graph → Call → Answer
answer_to shape g call = answer_of g (steps_of shape g call)

abbrev pub graph_after_call : Shape → Graph → Call → Graph
graph_after_call shape g call = (answer_to shape g call).graph

abbrev pub reply_to : Shape → Graph → Call → Reply
reply_to shape g call = (answer_to shape g call).reply
