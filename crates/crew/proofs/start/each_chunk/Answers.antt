use Rattle.std.proofs.Common.{rules}
use Rattle.crew.proofs.ChunkLaws.{accepts_all, all_in_runs}
use Rattle.crew.proofs.start.each_chunk.Goals as goal

pub chunks_from-requires-after_bounds : goal.chunks_from-requires-after_bounds
chunks_from-requires-after_bounds g c κs within =
    accepts_all g.F.Fn c.args.job.now c.args.size _ c.args.items.now c.requires.size (search rules) (search rules) c.div_ceil.ensures c.requires.accepts

pub returns-clause-by_index : goal.returns-clause-by_index
returns-clause-by_index g c =
    all_in_runs g.F.Fn c.args.job.now c.args.size c.args.items.now c.chunks_from.new.items c.requires.size c.chunks_from.ensures
