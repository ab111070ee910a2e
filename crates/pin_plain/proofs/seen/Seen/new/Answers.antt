use Rattle.std.proofs.Common.{refl}
use Rattle.pin_plain.proofs.TallyLaws.{before_zeros}
use Rattle.pin_plain.proofs.seen.Seen.new.Goals as goal

pub invariant_of-result : goal.invariant_of-result
invariant_of-result c = before_zeros 256 0 refl
