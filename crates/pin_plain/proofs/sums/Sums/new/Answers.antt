use Rattle.std.proofs.Common.{refl}
use Rattle.pin_plain.proofs.TallyLaws.{tracked_zeros, zeros}
use Rattle.pin_plain.proofs.sums.Sums.new.Goals as goal

pub invariant_of-result : goal.invariant_of-result
invariant_of-result c = tracked_zeros 256 refl

pub returns : goal.returns
returns c = zeros 256
