use Rattle.hmetis_read.proofs.flat.FlatNets.add_to.Goals as goal

pub push_nets-requires-clause-nets : goal.push_nets-requires-clause-nets
push_nets-requires-clause-nets c = rw (c.deref.ensures.value, c.deref-2.ensures.value, c.deref-3.ensures.value, c.self.view_is) c.requires.nets
