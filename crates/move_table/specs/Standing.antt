-- What stands between any two steps of a round: the words and the views of the passes are books in balance.
use Rattle.std.specs.Prelude.{◌≡◌, ◌≢◌, ℕ, ◌+◌, ◌-◌, ◌<◌, ◌≤◌, List, [], map, length, slice_index_or, true, false}
use Rattle.hg_defs.specs.Sums.{total}
use Rattle.hg_defs.specs.Partition.{Fits}
use Rattle.hg_defs.specs.declared.objective.Objective.TheVariants.{Connectivity}
use Rattle.pin_plain.specs.Parted.{IsParted}
use Rattle.move_core.specs.declared.events.Word.TheVariants as word
use Rattle.move_core.specs.State.{Setup, setup_of, blank}
use Rattle.move_core.specs.Balance.{InBalance}
use Rattle.atomic_table.specs.Table.{State}
use Rattle.move_table.specs.declared.view.Terms.{Terms}
use Rattle.move_table.specs.declared.view.View.{View}
use Rattle.move_table.specs.Places.{word_count, table_readings}

-- what the books of a round are over
abbrev pub terms_setup : Terms → Setup
terms_setup t = setup_of t.part.hyper t.part.k t.part.limit t.part.blocks

-- what a round may be over
pub record IsTerms (t : Terms) : Type 0 where
  pub parted : IsParted t.part.hyper t.part.k t.part.blocks
  pub fits : Fits t.part.hyper t.part.k t.part.limit t.part.blocks
  pub some : 1 ≤ t.workers
  pub few : t.workers ≤ 64

-- a pass that has done nothing
abbrev pub fresh_view : Terms → ℕ → ℕ → View
fresh_view t number may = record {
  terms = t;
  number = number;
  account = blank true;
  steps = 0;
  word = word.Next;
  found = 0;
  stands = 1;
  may = may;
}

-- the first pass, which may make the others
abbrev pub first_view : Terms → View
first_view t = fresh_view t 0 (t.workers - 1)

-- a pass that another one took over
abbrev pub spent_view : View
spent_view = record {
  terms = record {
    part = record {
      hyper = record { weights = []; nets = []; objective = Connectivity; fixes = [] };
      k = 0;
      limit = 0;
      blocks = [];
    };
    workers = 0;
  };
  number = 0;
  account = blank false;
  steps = 0;
  word = word.Next;
  found = 0;
  stands = 0;
  may = 0;
}

-- a pass that lives knows what the round is over and its own number, stands for itself, and makes passes only where
-- it is the first; one that has ended stands for none
pub record IsViewAt (t : Terms) (views : List View) (i : ℕ) (v : View) : Type 0 where
  pub terms : v.account.live ≡ true → v.terms ≡ t
  pub number : v.account.live ≡ true → v.number ≡ i
  pub stands : v.account.live ≡ true → 1 ≤ v.stands
  pub first : i ≢ 0 → v.may ≡ 0
  pub makes : 0 < v.may → length views + v.may ≡ t.workers

-- the words and the views of the passes
pub record IsStanding (t : Terms) (words : List ℕ) (views : List View) : Type 0 where
  pub over : IsTerms t
  pub wide : length words ≡ word_count (terms_setup t)
  pub balance : InBalance (terms_setup t) (table_readings (terms_setup t) words) (map (λ v. v.account) views)
  pub each : (i : ℕ) → i < length views → IsViewAt t views i (slice_index_or views i spent_view)
  pub shares : total (λ v. v.stands + v.may) views ≡ t.workers
  pub made : length views ≤ t.workers

-- the rule of the table
abbrev pub AllStanding : Terms → State (Unit {0}) View → Type 0
AllStanding terms s = IsStanding terms s.words s.views
