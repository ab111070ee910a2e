use Rattle.std.proofs.Common.{◌≡◌, ◌-◌, All, length}
use Rattle.hg_text.specs.Kept.{reading}
use Rattle.part_text.specs.Entries.{IsEntry, entry_in, spelled}
use Rattle.part_text.proofs.ReadLemmas.{behind}
use Rattle.part_text.proofs.read.read_entries.Given as goal

abbrev pub invariant-lines : goal.invariant-lines
invariant-lines l = record {
  spelt : spelled (entry_in l.entry l.k) l.n (reading l.bytes) ≡ behind l.values.items (spelled (entry_in l.entry l.k) (l.n - l.counter) l.lines);
  same : l.lines.count ≡ (reading l.bytes).count;
  count : length l.values.items ≡ l.counter;
  each : All (IsEntry l.entry l.k) l.values.items;
}
