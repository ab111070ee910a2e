use Rattle.hgpart.proofs.BoxLemmas.{of_three}
use Rattle.std.proofs.rt.LibcRuntime.TheSendSync as runtime
use Rattle.hgpart.proofs.tests.drawn.partitions_are_counted_anew.OwnLists as own
use Rattle.hgpart.proofs.tests.drawn.partitions_are_counted_anew.Goals as goal

pub ends_well-requires-clause-may_run : goal.ends_well-requires-clause-may_run
ends_well-requires-clause-may_run g c κs =
    λ k d low. of_three (λ x v. ((own.own-1 g.bound-1-dict g.bound-2-dict).entry x).1.may_run v) (λ v. record { shared = runtime.the_sync.shared })
    (λ v. record { shared = runtime.the_sync.shared }) (λ v. record { shared = runtime.the_sync.shared }) _ _
