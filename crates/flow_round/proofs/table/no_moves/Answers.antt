use Rattle.std.proofs.Common.{arith}
use Rattle.flow_round.proofs.TableLaws.{square_small}
use Rattle.flow_round.proofs.table.no_moves.Goals as goal

pub overflow_mul-count : goal.overflow_mul-count
overflow_mul-count c = let s = square_small c.args.k c.requires in omega (arith, s)
