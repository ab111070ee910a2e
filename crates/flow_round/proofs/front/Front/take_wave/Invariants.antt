use Rattle.std.proofs.Common.{◌≡◌}
use Rattle.flow_round.specs.Fronts.{IsFront, TakesPairs}
use Rattle.flow_round.proofs.FrontLaws.{HaveLaterEnds, wave_below}
use Rattle.flow_round.proofs.front.Front.take_wave.Given as goal

abbrev pub invariant-loop-a : goal.invariant-loop-a
invariant-loop-a l = record {
  front : IsFront l.h l.self;
  taken : TakesPairs l.h (wave_below l.fn.self.part.k l.wave l.a) l.fn.self l.self;
  rest : HaveLaterEnds l.h l.self.part l.wave l.a l.self.ends.items;
  ends : l.self.ends.items ≡ l.fn.self.ends.items;
}
