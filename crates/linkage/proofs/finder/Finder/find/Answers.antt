use Rattle.linkage.proofs.Finds.{near_link, row_place}
use Rattle.linkage.proofs.finder.Finder.find.Goals as goal

pub near-requires-clause-there : goal.near-requires-clause-there
near-requires-clause-there g c = row_place c.args.traces.now c.args.self.now.row c.requires.finder.row c.args.cell c.args.bound c.requires.cell c.requires.bound

pub returns-in-Some-clause-found : goal.returns-in-Some-clause-found
returns-in-Some-clause-found g c = near_link c.args.traces.now c.args.self.now.row c.requires.finder.row c.args.cell c.args.value c.args.bound c.in-Some.number c.requires.cell c.requires.bound c.in-Some.ensures
