use Rattle.std.proofs.Common.{◌≡◌, ◌+◌, length, arith}
use Rattle.std.specs.BTreeSet.{insert_key}
use Rattle.std.specs.Ordering.{nat_cmp}
use Rattle.run_check.proofs.Seen.{seen_more}
use Rattle.run_check.proofs.numbering.see.Goals as goal

pub returns-clause-seen : goal.returns-clause-seen
returns-clause-seen c = λ earlier seen right.
    let is : c.insert.new.self.keys ≡ insert_key nat_cmp c.args.seen.now.keys c.args.k = grind arith in
    let longer : length c.insert.new.self.keys ≡ length c.args.seen.now.keys + 1 = grind (arith, right) in
    seen_more c.args.seen.now.keys c.insert.new.self.keys earlier c.args.k is longer seen
