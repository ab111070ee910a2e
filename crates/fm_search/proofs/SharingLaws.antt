-- What the workers of a round share may be shared by threads.
use denote.Param.Send.{IsSync, sendable, shr_sync, struct_sync, recorded_sync}
use denote.Ref.{ShrRef}
use denote.Struct.Declared as declared
use Rattle.std.proofs.Crossing.{crosses}
use Rattle.incidence.specs.contracts.hypergraph.Hypergraph as graph
use Rattle.incidence.proofs.hypergraph.Hypergraph.TheSendSync as hyper
use Rattle.move_table.specs.contracts.round.Round as round
use Rattle.move_table.proofs.SharingLaws.{round_sync}
use Rattle.fm_search.specs.contracts.progress.Progress as progress
use Rattle.fm_search.specs.contracts.shared.Shared as shared
use Rattle.fm_search.specs.contracts.told.Told as told

progress_sync : IsSync progress.the_row
progress_sync = search (sendable, crosses) depth 20

round_field_sync : (ℓ : _) (κ κ' : _) → IsSync (ShrRef ℓ κ (round.the_row κ'))
round_field_sync ℓ κ κ' = shr_sync ℓ κ (round.the_row κ') (round_sync κ')

hyper_field_sync : (ℓ : _) (κ : _) → IsSync (ShrRef ℓ κ graph.the_row)
hyper_field_sync ℓ κ = shr_sync ℓ κ graph.the_row hyper.the_sync

progress_field_sync : (ℓ : _) (κ : _) → IsSync (ShrRef ℓ κ progress.the_row)
progress_field_sync ℓ κ = shr_sync ℓ κ progress.the_row progress_sync

told_sync : IsSync told.the_row
told_sync = search (sendable, crosses) depth 20

told_field_sync : (ℓ : _) (κ : _) → IsSync (ShrRef ℓ κ told.the_row)
told_field_sync ℓ κ = shr_sync ℓ κ told.the_row told_sync

-- what the workers share
pub shared_sync : (κ : _) → IsSync (shared.the_row κ)
shared_sync κ = recorded_sync _ _ _ ((shared.the_type κ).to_one) (struct_sync (declared.shape (shared.the_type κ)) (
  round_field_sync _ _ _,
  (
    hyper_field_sync _ _,
    (
      search (sendable, crosses),
      (
        search (sendable, crosses),
        (
          search (sendable, crosses),
          (
            search (sendable, crosses) depth 20,
            (
              search (sendable, crosses),
              (search (sendable, crosses), (progress_field_sync _ _, (search (sendable, crosses) depth 20, (told_field_sync _ _, tt)))),
            ),
          ),
        ),
      ),
    ),
  ),
))
