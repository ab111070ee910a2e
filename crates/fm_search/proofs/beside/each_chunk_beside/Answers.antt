use Rattle.std.proofs.Common.{rules}
use Rattle.crew.proofs.ChunkLaws.{accepts_all, all_in_runs}
use Rattle.fm_search.proofs.beside.each_chunk_beside.Goals as goal

pub runs_beside-requires-clause-items : goal.runs_beside-requires-clause-items
runs_beside-requires-clause-items g c κs within =
    accepts_all g.F.Fn c.args.job.now c.args.size _ c.args.items.now c.requires.size (search rules) (search rules) c.div_ceil.ensures c.requires.accepts

pub returns-clause-by_index : goal.returns-clause-by_index
returns-clause-by_index g c =
    all_in_runs g.F.Fn c.args.job.now c.args.size c.args.items.now c.runs_beside.new.items c.requires.size c.runs_beside.ensures.items
