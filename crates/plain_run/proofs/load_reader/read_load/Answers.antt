use Rattle.std.proofs.Common.{◌≡◌, ℕ, List, refl, ap, subst, ◌∙◌}
use Rattle.std.specs.Option.{option_map}
use Rattle.bulk_load.specs.declared.load_file.LoadFile.TheVariants.{Vertices, Edges}
use Rattle.graph_model.specs.Graph.{Graph}
use Rattle.rma_layout.specs.Shape.{Shape}
use Rattle.map_graph.specs.Plain.{Plain}
use Rattle.plain_run.specs.declared.load.Load.{Load}
use Rattle.plain_run.specs.Loading.{behind, behind_load, behind_vertices, empty_plain, LoadsFile}
use Rattle.plain_run.proofs.LoadLemmas.{behind_shape, counted_there, handed_on, shape_behind_vertices}
use Rattle.plain_run.proofs.load_reader.read_load.Goals as goal

pub returns : goal.returns
returns c =
    let shape = c.args.geometry in
    let vertices = c.in_ok-vertices.vertices in
    let edges = c.in_ok-edges.edges in
    let load : Load = record { vertices = vertices; edges = edges } in
    let none : c.new-graph.result ≡ empty_plain shape =
    ap (λ (s : Shape). record { shape = s; graph = c.new-graph.result.graph }) c.new-graph.ensures.shape ∙ ap (λ (g : Graph). record { shape = shape; graph = g }) c.new-graph.ensures.empty in
    let first : c.read_file.new.graph ≡ behind_vertices shape load = c.in_ok-vertices.ensures.graph ∙ ap (λ (p : Plain). behind p vertices) none in
    let second : c.read_file-2.new.graph ≡ behind_load shape load = c.in_ok-edges.ensures.graph ∙ ap (λ (p : Plain). behind p edges) first in
    let before = counted_there shape c.new-graph.result (empty_plain shape) c.in_ok-first.first none refl c.in_ok-first.ensures in
    let between = counted_there shape c.read_file.new.graph (behind_vertices shape load) c.in_ok-behind_vertices.behind_vertices first (shape_behind_vertices shape load) c.in_ok-behind_vertices.ensures in
    let after = counted_there shape c.read_file-2.new.graph (behind_load shape load) c.in_ok-behind_edges.behind_edges second (behind_shape shape load) c.in_ok-behind_edges.ensures in (
      record {
        vertices = subst (λ (p : Plain). LoadsFile Vertices (option_map (λ bytes. bytes.now) c.args.vertices) p vertices) none c.in_ok-vertices.ensures.loads;
        edges = subst (λ (p : Plain). LoadsFile Edges (option_map (λ bytes. bytes.now) c.args.edges) p edges) first c.in_ok-edges.ensures.loads;
      },
      handed_on shape load c.if_both.result c.of-graph.result c.in_ok-vertices_fit.vertices_fit c.in_ok-edges_fit.edges_fit c.if_both.ensures
          (λ fits. c.in_ok-vertices_fit.ensures (empty_plain shape) refl fits before between)
          (λ fits. c.in_ok-edges_fit.ensures (behind_vertices shape load) (shape_behind_vertices shape load) fits between after)
          (c.of-graph.ensures ∙ second),
    )
