use Rattle.std.proofs.Common.{◌≡◌, ℕ, ◌-◌, ◌/◌, length, arith, refl, sym, ap, ◌∙◌, subst}
use Rattle.rma_layout.specs.Ranges.{IsInRange}
use Rattle.window_rule.specs.Attach.{AttachesAll}
use Rattle.window_rule.specs.Objects.{chain_length}
use Rattle.object_moves.specs.Loads.{blocks_asked}
use Rattle.object_moves.specs.Rewrites.{chain_of_first}
use Rattle.object_moves.specs.Stores.{AreLinkedTo}
use Rattle.object_moves.proofs.Chains.{asked_are}
use Rattle.object_moves.proofs.RewriteFacts.{inside, links_stand, may_attach, no_spare_after, put_there, reaches, rewrites, spares_left, words_stand}
use Rattle.object_moves.proofs.rewriting.rewrite.Goals as goal

pub put_links-requires-clause-blocks : goal.put_links-requires-clause-blocks
put_links-requires-clause-blocks g c =
    let in_range : IsInRange c.args.window.now.shape = subst IsInRange c.geometry-geometry.ensures c.keeps_ranges.ensures in
    let used : c.used_of-used.result ≡ chain_length c.args.window.now.shape c.args.at c.args.words.now = c.used_of-used.ensures ∙ (c.chain_blocks.ensures
    ∙ (ap (λ s. blocks_asked s c.args.at c.len.result) c.geometry-geometry.ensures ∙ (ap (blocks_asked c.args.window.now.shape c.args.at) c.len.ensures
    ∙ asked_are c.args.window.now.shape c.args.at c.args.words.now))) in
    λ j h. inside c.args.window.now.shape in_range c.args.at c.args.blocks.now c.args.kept c.args.old.now c.args.words.now c.args.rank.now c.requires.may c.detach.new.self.view c.detach.ensures.view j (omega (arith, h, used, c.requires.may.has.enough))

pub put_links-requires-clause-may : goal.put_links-requires-clause-may
put_links-requires-clause-may g c =
    let in_range : IsInRange c.args.window.now.shape = subst IsInRange c.geometry-geometry.ensures c.keeps_ranges.ensures in
    let used : c.used_of-used.result ≡ chain_length c.args.window.now.shape c.args.at c.args.words.now = c.used_of-used.ensures ∙ (c.chain_blocks.ensures
    ∙ (ap (λ s. blocks_asked s c.args.at c.len.result) c.geometry-geometry.ensures ∙ (ap (blocks_asked c.args.window.now.shape c.args.at) c.len.ensures
    ∙ asked_are c.args.window.now.shape c.args.at c.args.words.now))) in
    λ j h. put_there c.args.window.now.shape in_range c.args.at c.args.blocks.now c.args.kept c.args.old.now c.args.words.now c.args.rank.now c.requires.may c.detach.new.self.view c.detach.ensures.view c.detach.new.self.view refl j (omega (arith, h, used, c.requires.may.has.enough))

pub put_links-requires-clause-stand : goal.put_links-requires-clause-stand
put_links-requires-clause-stand g c =
    let in_range : IsInRange c.args.window.now.shape = subst IsInRange c.geometry-geometry.ensures c.keeps_ranges.ensures in
    links_stand c.args.window.now.shape in_range c.args.at c.args.blocks.now c.args.kept c.args.old.now c.args.words.now c.args.rank.now c.requires.may c.detach.new.self.view c.detach.ensures.view

pub put_payload-requires-clause-reach : goal.put_payload-requires-clause-reach
put_payload-requires-clause-reach g c =
    let in_range : IsInRange c.args.window.now.shape = subst IsInRange c.geometry-geometry.ensures c.keeps_ranges.ensures in
    reaches c.args.window.now.shape in_range c.args.at c.args.blocks.now c.args.kept c.args.old.now c.args.words.now c.args.rank.now c.requires.may c.detach.new.self.view c.detach.ensures.view

pub put_payload-requires-clause-blocks : goal.put_payload-requires-clause-blocks
put_payload-requires-clause-blocks g c =
    let in_range : IsInRange c.args.window.now.shape = subst IsInRange c.geometry-geometry.ensures c.keeps_ranges.ensures in
    λ m h. inside c.args.window.now.shape in_range c.args.at c.args.blocks.now c.args.kept c.args.old.now c.args.words.now c.args.rank.now c.requires.may c.detach.new.self.view c.detach.ensures.view (m / (c.args.window.now.shape.words - 1)) (reaches c.args.window.now.shape in_range c.args.at c.args.blocks.now c.args.kept c.args.old.now c.args.words.now c.args.rank.now c.requires.may c.detach.new.self.view c.detach.ensures.view m h)

pub put_payload-requires-clause-may : goal.put_payload-requires-clause-may
put_payload-requires-clause-may g c =
    let in_range : IsInRange c.args.window.now.shape = subst IsInRange c.geometry-geometry.ensures c.keeps_ranges.ensures in
    λ m h. put_there c.args.window.now.shape in_range c.args.at c.args.blocks.now c.args.kept c.args.old.now c.args.words.now c.args.rank.now c.requires.may c.detach.new.self.view c.detach.ensures.view c.put_links.new.rank.view c.put_links.ensures.only (m / (c.args.window.now.shape.words - 1)) (reaches c.args.window.now.shape in_range c.args.at c.args.blocks.now c.args.kept c.args.old.now c.args.words.now c.args.rank.now c.requires.may c.detach.new.self.view c.detach.ensures.view m h)

pub put_payload-requires-clause-stand : goal.put_payload-requires-clause-stand
put_payload-requires-clause-stand g c =
    let in_range : IsInRange c.args.window.now.shape = subst IsInRange c.geometry-geometry.ensures c.keeps_ranges.ensures in
    let used : c.used_of-used.result ≡ chain_length c.args.window.now.shape c.args.at c.args.words.now = c.used_of-used.ensures ∙ (c.chain_blocks.ensures
    ∙ (ap (λ s. blocks_asked s c.args.at c.len.result) c.geometry-geometry.ensures ∙ (ap (blocks_asked c.args.window.now.shape c.args.at) c.len.ensures
    ∙ asked_are c.args.window.now.shape c.args.at c.args.words.now))) in
    let linked : AreLinkedTo c.args.blocks.now (chain_length c.args.window.now.shape c.args.at c.args.words.now) (chain_length c.args.window.now.shape c.args.at c.args.words.now) c.detach.new.self.view.cells c.put_links.new.rank.view.cells =
    subst (λ (n : ℕ). AreLinkedTo c.args.blocks.now n n c.detach.new.self.view.cells c.put_links.new.rank.view.cells) used c.put_links.ensures.linked in
    words_stand c.args.window.now.shape in_range c.args.at c.args.blocks.now c.args.kept c.args.old.now c.args.words.now c.args.rank.now c.requires.may c.detach.new.self.view c.detach.ensures.view c.put_links.new.rank.view c.put_links.ensures.only linked

pub attach-requires-clause-may : goal.attach-requires-clause-may
attach-requires-clause-may g c =
    let in_range : IsInRange c.args.window.now.shape = subst IsInRange c.geometry-geometry.ensures c.keeps_ranges.ensures in
    let used : c.used_of-used.result ≡ chain_length c.args.window.now.shape c.args.at c.args.words.now = c.used_of-used.ensures ∙ (c.chain_blocks.ensures
    ∙ (ap (λ s. blocks_asked s c.args.at c.len.result) c.geometry-geometry.ensures ∙ (ap (blocks_asked c.args.window.now.shape c.args.at) c.len.ensures
    ∙ asked_are c.args.window.now.shape c.args.at c.args.words.now))) in
    let linked : AreLinkedTo c.args.blocks.now (chain_length c.args.window.now.shape c.args.at c.args.words.now) (chain_length c.args.window.now.shape c.args.at c.args.words.now) c.detach.new.self.view.cells c.put_links.new.rank.view.cells =
    subst (λ (n : ℕ). AreLinkedTo c.args.blocks.now n n c.detach.new.self.view.cells c.put_links.new.rank.view.cells) used c.put_links.ensures.linked in
    (chain_of_first c.args.window.now.shape c.args.at c.args.blocks.now c.args.words.now, c.args.words.now, sym c.len-2.ensures, may_attach c.args.window.now.shape in_range c.args.at c.args.blocks.now c.args.kept c.args.old.now c.args.words.now c.args.rank.now c.requires.may c.detach.new.self.view c.detach.ensures.view c.put_links.new.rank.view c.put_links.ensures.only linked c.put_payload.new.rank.view c.put_payload.ensures.only c.put_payload.ensures.filled)

pub attach-requires-clause-spares_left : goal.attach-requires-clause-spares_left
attach-requires-clause-spares_left g c =
    let in_range : IsInRange c.args.window.now.shape = subst IsInRange c.geometry-geometry.ensures c.keeps_ranges.ensures in
    let used : c.used_of-used.result ≡ chain_length c.args.window.now.shape c.args.at c.args.words.now = c.used_of-used.ensures ∙ (c.chain_blocks.ensures
    ∙ (ap (λ s. blocks_asked s c.args.at c.len.result) c.geometry-geometry.ensures ∙ (ap (blocks_asked c.args.window.now.shape c.args.at) c.len.ensures
    ∙ asked_are c.args.window.now.shape c.args.at c.args.words.now))) in
    let linked : AreLinkedTo c.args.blocks.now (chain_length c.args.window.now.shape c.args.at c.args.words.now) (chain_length c.args.window.now.shape c.args.at c.args.words.now) c.detach.new.self.view.cells c.put_links.new.rank.view.cells =
    subst (λ (n : ℕ). AreLinkedTo c.args.blocks.now n n c.detach.new.self.view.cells c.put_links.new.rank.view.cells) used c.put_links.ensures.linked in
    λ chain content size. spares_left c.args.window.now.shape in_range c.args.at c.args.blocks.now c.args.kept c.args.old.now c.args.words.now c.args.rank.now c.requires.may c.detach.new.self.view c.detach.ensures.view c.put_links.new.rank.view c.put_links.ensures.only linked c.put_payload.new.rank.view c.put_payload.ensures.only c.put_payload.ensures.filled c.put_payload.new.rank.spares
    (c.put_payload.ensures.spares ∙ (c.put_links.ensures.spares ∙ c.detach.ensures.spares)) chain content (size ∙ c.len-2.ensures)

pub returns-clause-rewrites : goal.returns-clause-rewrites
returns-clause-rewrites g c =
    let in_range : IsInRange c.args.window.now.shape = subst IsInRange c.geometry-geometry.ensures c.keeps_ranges.ensures in
    let used : c.used_of-used.result ≡ chain_length c.args.window.now.shape c.args.at c.args.words.now = c.used_of-used.ensures ∙ (c.chain_blocks.ensures
    ∙ (ap (λ s. blocks_asked s c.args.at c.len.result) c.geometry-geometry.ensures ∙ (ap (blocks_asked c.args.window.now.shape c.args.at) c.len.ensures
    ∙ asked_are c.args.window.now.shape c.args.at c.args.words.now))) in
    let linked : AreLinkedTo c.args.blocks.now (chain_length c.args.window.now.shape c.args.at c.args.words.now) (chain_length c.args.window.now.shape c.args.at c.args.words.now) c.detach.new.self.view.cells c.put_links.new.rank.view.cells =
    subst (λ (n : ℕ). AreLinkedTo c.args.blocks.now n n c.detach.new.self.view.cells c.put_links.new.rank.view.cells) used c.put_links.ensures.linked in
    let attaches : AttachesAll c.args.window.now.shape c.args.at c.put_payload.new.rank.view (length c.args.words.now) c.attach.new.self.view =
    λ chain content size may. c.attach.ensures.view chain content (size ∙ sym c.len-2.ensures) may in
    rewrites c.args.window.now.shape in_range c.args.at c.args.blocks.now c.args.kept c.args.old.now c.args.words.now c.args.rank.now c.requires.may c.detach.new.self.view c.detach.ensures.view c.put_links.new.rank.view c.put_links.ensures.only linked c.put_payload.new.rank.view c.put_payload.ensures.only c.put_payload.ensures.filled c.attach.new.self.view attaches

pub returns-clause-no_spare : goal.returns-clause-no_spare
returns-clause-no_spare g c =
    let in_range : IsInRange c.args.window.now.shape = subst IsInRange c.geometry-geometry.ensures c.keeps_ranges.ensures in
    let used : c.used_of-used.result ≡ chain_length c.args.window.now.shape c.args.at c.args.words.now = c.used_of-used.ensures ∙ (c.chain_blocks.ensures
    ∙ (ap (λ s. blocks_asked s c.args.at c.len.result) c.geometry-geometry.ensures ∙ (ap (blocks_asked c.args.window.now.shape c.args.at) c.len.ensures
    ∙ asked_are c.args.window.now.shape c.args.at c.args.words.now))) in
    let linked : AreLinkedTo c.args.blocks.now (chain_length c.args.window.now.shape c.args.at c.args.words.now) (chain_length c.args.window.now.shape c.args.at c.args.words.now) c.detach.new.self.view.cells c.put_links.new.rank.view.cells =
    subst (λ (n : ℕ). AreLinkedTo c.args.blocks.now n n c.detach.new.self.view.cells c.put_links.new.rank.view.cells) used c.put_links.ensures.linked in
    let attaches : AttachesAll c.args.window.now.shape c.args.at c.put_payload.new.rank.view (length c.args.words.now) c.attach.new.self.view =
    λ chain content size may. c.attach.ensures.view chain content (size ∙ sym c.len-2.ensures) may in
    no_spare_after c.args.window.now.shape in_range c.args.at c.args.blocks.now c.args.kept c.args.old.now c.args.words.now c.args.rank.now c.requires.may c.detach.new.self.view c.detach.ensures.view c.put_links.new.rank.view c.put_links.ensures.only linked c.put_payload.new.rank.view c.put_payload.ensures.only c.put_payload.ensures.filled c.attach.new.self.view attaches c.args.rank.now.window.shape (ap (λ w. w.shape) c.requires.window) c.first_spare-first.ensures.has
    c.attach.new.self.spares (c.attach.ensures.spares ∙ (c.put_payload.ensures.spares ∙ (c.put_links.ensures.spares ∙ c.detach.ensures.spares)))
