use Rattle.text_words.specs.Forms.{texts}
use Rattle.bulk_load.proofs.HeaderLemmas.{vertices_lead, no_vertices_lead}
use Rattle.bulk_load.proofs.header_reader.vertex_lead_of.Goals as goal

pub returns-then-leads_vertices : goal.returns-then-leads_vertices
returns-then-leads_vertices c =
    let front = rw c.if-leads_vertices.true at c.leads_vertices.ensures in
    vertices_lead (texts c.args.fields.now) front.0 front.1

pub returns : goal.returns
returns c = no_vertices_lead (texts c.args.fields.now) (rw c.if-leads_vertices.false at c.leads_vertices.ensures)
