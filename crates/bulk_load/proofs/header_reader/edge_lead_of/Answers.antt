use Rattle.text_words.specs.Forms.{texts}
use Rattle.bulk_load.proofs.HeaderLemmas.{marked_lead, edges_lead, no_edges_lead}
use Rattle.bulk_load.proofs.header_reader.edge_lead_of.Goals as goal

pub returns-then-leads_marked_edges : goal.returns-then-leads_marked_edges
returns-then-leads_marked_edges c =
    let front = rw c.if-leads_marked_edges.true at c.leads_marked_edges.ensures in
    marked_lead (texts c.args.fields.now) front.0 front.1

pub returns-then-leads_edges : goal.returns-then-leads_edges
returns-then-leads_edges c =
    let front = rw c.if-leads_edges.true at c.leads_edges.ensures in
    edges_lead (texts c.args.fields.now) front.0 front.1 (rw c.if-leads_marked_edges.false at c.leads_marked_edges.ensures)

pub returns : goal.returns
returns c = no_edges_lead (texts c.args.fields.now) (rw c.if-leads_marked_edges.false at c.leads_marked_edges.ensures) (rw c.if-leads_edges.false at c.leads_edges.ensures)
