use Rattle.std.proofs.Common.{◌≡◌, ◌≤◌, ◌-◌, length, map, take, drop, string_bytes, sym, subst, arith}
use Rattle.std.specs.Prelude.{unwrap_or}
use Rattle.part_run.specs.Spelled.{settings_of, HasFewCycles}
use Rattle.part_run.proofs.TooFew.{partition_words-short}
use Rattle.part_run.proofs.SettingBounds.{workers_within, cycles_within}
use Rattle.part_run.proofs.words.partition_words.Goals as goal

pub returns-in_default : goal.returns-in_default
returns-in_default c = record { bounds = tt; value = partition_words-short c.args.words.now c.in_default.len_below }

pub invariant_of-result-2 : goal.invariant_of-result-2
invariant_of-result-2 c =
    let s = c.in_ok-settings.settings in
    let count : c.unwrap_or-2.result ≡ unwrap_or s.workers 4 = c.unwrap_or-2.ensures in
    let within : (1 ≤ unwrap_or s.workers 4) × (unwrap_or s.workers 4 ≤ 64) =
    workers_within (map string_bytes (take (length c.args.words.now - 3) (drop 3 c.args.words.now))) (settings_of s) (sym c.in_ok-settings.ensures) in
    record { some = (let least = within.0 in omega arith); few = (let most = within.1 in omega arith) }

pub returns-clause-bounds : goal.returns-clause-bounds
returns-clause-bounds c =
    subst HasFewCycles (sym c.unwrap_or-4.ensures)
    (cycles_within (map string_bytes (take (length c.args.words.now - 3) (drop 3 c.args.words.now))) (settings_of c.in_ok-settings.settings)
    (sym c.in_ok-settings.ensures))
