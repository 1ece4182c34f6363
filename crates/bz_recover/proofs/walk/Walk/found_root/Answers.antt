use Rattle.std.proofs.Common.{◌≡◌, arith}
use Rattle.bz_content.specs.Resolving.{resolve}
use Rattle.bz_layout.specs.declared.sizes.TheConstants.{ROOT_AT}
use Rattle.bz_recover.proofs.Reading.{root-read, IsRootPointer}
use Rattle.bz_recover.proofs.walk.Walk.found_root.Goals as goal

pub returns-in-None-clause-leads : goal.returns-in-None-clause-leads
returns-in-None-clause-leads c free values image t left b told =
    let r : (resolve image ROOT_AT ≡ c.args.pointer) × IsRootPointer c.args.self.now.config c.args.pointer = root-read c.args.self.now.config values image c.args.pointer t told in
    let some = c.in-None.ensures.is r.1.some r.1.slot in
    absurd (cc)

pub returns-in-Some-clause-leads : goal.returns-in-Some-clause-leads
returns-in-Some-clause-leads c free values image t left b told =
    let r : (resolve image ROOT_AT ≡ c.args.pointer) × IsRootPointer c.args.self.now.config c.args.pointer = root-read c.args.self.now.config values image c.args.pointer t told in
    ((b, omega (arith, r.0, c.in-Some.ensures.some.0)), left)
