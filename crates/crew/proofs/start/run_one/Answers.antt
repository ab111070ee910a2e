use Rattle.crew.proofs.ChunkLaws.{only_changed}
use Rattle.crew.proofs.start.run_one.Goals as goal

pub returns : goal.returns
returns g c d = only_changed g.F.Fn c.args.job.now c.args.place c.args.part.now c.run.new.item _ d c.requires.alone c.run.ensures
