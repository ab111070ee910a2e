-- What a list becomes where its items are lent to be changed.
use Rattle.std.specs.Prelude.{List, length}
use Rattle.std.specs.Borrow.{Lends, Fml, RattleType, MutBor, Array}
use Rattle.std.specs.List.{refill}
use Rattle.hg_base.specs.contracts.list.Items.{the_row}

-- once the borrow r ends, the items are those that r shows last
abbrev pub LendsItems : (T : RattleType) → MutBor (List T.Denot) → MutBor (List T.Denot) → Fml
LendsItems T s r = Lends (the_row T) (Array T 0) s r (refill (length s.now) s.now)
