use Rattle.std.proofs.Common.{◌∙◌, length, nat_lt, sym, ap}
use Rattle.flow_pair.proofs.RegionLaws.{member-position}
use Rattle.flow_pair.proofs.pair.contains.Goals as goal

pub returns : goal.returns
returns c = ap (λ n. nat_lt n (length c.args.list.now)) c.place_of.ensures ∙ sym (member-position c.args.list.now c.args.v)
