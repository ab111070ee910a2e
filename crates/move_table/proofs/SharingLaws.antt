-- A round may be shared by threads: its words are atomic, and all else of it is only read.
use denote.Param.Send.{IsSync, sendable, shr_sync, view_sync, struct_sync, recorded_sync}
use Rattle.std.proofs.Crossing.{crosses}
use Rattle.pin_plain.specs.contracts.partition.ready.Ready as ready
use Rattle.move_table.specs.contracts.view.Terms as terms
use Rattle.move_table.specs.contracts.round.Round as round
use Rattle.incidence.proofs.hypergraph.Hypergraph.TheSendSync as hyper
use Rattle.std.specs.contracts.alloc.Global as global
use Rattle.std.specs.contracts.impls.GlobalAllocator.TheImpl as impls
use Rattle.incidence.specs.contracts.hypergraph.Hypergraph as graph
use denote.Ref.{ShrRef}
use denote.RattleType.{RattleType}
use Rattle.atomic_table.proofs.shared.Shared.TheSendSync as shared
use Rattle.atomic_table.proofs.send_lease.SendLease.TheSendSync as lease
use denote.Builtin.{unit}
use denote.Struct.Declared as declared
use Rattle.atomic_table.specs.declared.shared.TableRule.{Ghosts}
use Rattle.atomic_table.specs.contracts.owned.Table as tables

ready_sync : IsSync ready.the_row
ready_sync = search (sendable, crosses) depth 40

hyper_sync : (ℓ : _) (κ : _) → IsSync (ShrRef ℓ κ graph.the_row)
hyper_sync ℓ κ = shr_sync ℓ κ graph.the_row (hyper.the_sync)

terms_field_sync : IsSync (terms.the_field).row
terms_field_sync = search (sendable, crosses, ready_sync) depth 20

table_field_sync : (V K P : RattleType) (g : Ghosts P.Denot unit.Denot V.Denot K.Denot) →
    IsSync (tables.the_field unit V K P global.the_row g impls.ghosts).row
table_field_sync V K P g = search (sendable, crosses, shared.the_sync, lease.the_sync) depth 20

inside_sync : (κ : _) → IsSync (round.TheInside.the_row κ)
inside_sync κ = recorded_sync _ _ _ ((round.TheInside.the_type κ).to_one) (struct_sync (declared.shape (round.TheInside.the_type κ))
    (hyper_sync _ _, (terms_field_sync, (search table_field_sync, (search (sendable, crosses), tt)))))

-- a round may be shared by threads
pub round_sync : (κ : _) → IsSync (round.the_row κ)
round_sync κ = view_sync _ _ _ _ _ (inside_sync κ)
