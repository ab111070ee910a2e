-- What contracts see of a round and of its passes, and what each call of a pass does.
use Rattle.std.specs.Prelude.{◌≡◌, ℕ, ◌+◌, ◌*◌, ◌≤◌, ◌<◌, List, [], ◌∷◌, ◌++◌, map, length, take, slice_index, All, FitsSigned, ℤ}
use Rattle.std.specs.Prelude.{pos, ◌+ℤ◌, Option, Some, None, true, nat_eq, slice_index_or, if◌then◌else◌}
use Rattle.std.specs.Int.{w64}
use Rattle.hg_defs.specs.Sums.{total_z}
use Rattle.hg_defs.specs.Hypergraph.{Hyper, vertex_count}
use Rattle.hg_defs.specs.Partition.{block_of}
use Rattle.hg_defs.specs.Cost.{cost}
use Rattle.hg_defs.specs.Incidence.{nets_of}
use Rattle.atomic_table.specs.Seated.{TableId}
use Rattle.atomic_table.specs.Table.{Me}
use Rattle.move_core.specs.declared.account.Account.{Account}
use Rattle.move_core.specs.declared.account.Owed.TheVariants.{Nothing}
use Rattle.move_core.specs.declared.account.Stage.{Stage}
use Rattle.move_core.specs.declared.account.Stage.TheVariants.{Idle, Refused, Granted, Moving}
use Rattle.move_core.specs.declared.events.Event.{Event}
use Rattle.move_core.specs.declared.events.Event.TheVariants.{Draw, Name, Raise, Widen, Lower, Narrow, GiveBack}
use Rattle.move_core.specs.State.{Setup, times, blank}
use Rattle.move_core.specs.Stages.{booked_at}
use Rattle.move_core.specs.Events.{moved_vertices, widen_gain, narrow_gain}
use Rattle.move_table.specs.declared.view.Terms.{Terms}
use Rattle.move_table.specs.declared.view.View.{View}
use Rattle.move_table.specs.declared.grant.Grant.{Grant}
use Rattle.move_table.specs.declared.grant.Done.{Done}
use Rattle.move_table.specs.Places.{word_count}
use Rattle.move_table.specs.Standing.{terms_setup, IsTerms}
use Rattle.move_table.specs.Steps.{acted}

-- a round: which table its words are in, and what it is over
pub record RacedRound : Type 0 where
  pub table : TableId
  pub terms : Terms

-- a pass: which table it steps on, what is known of it, and how many moves it has room for
pub record RacedPass : Type 0 where
  pub table : TableId
  pub view : View
  pub spare : ℕ

-- what a round begins with: which table its words are in, what it is over, and its passes
pub record Beginning : Type 0 where
  pub table : TableId
  pub terms : Terms
  pub passes : List RacedPass

-- the pass is one of the round
pub record IsPassOf (r : RacedRound) (p : RacedPass) : Type 0 where
  pub same_table : p.table ≡ r.table
  pub same_terms : p.view.terms ≡ r.terms

-- the pass after an event of its own that found a number
abbrev pub stepped : Event → ℕ → RacedPass → RacedPass
stepped x found p = record p { view = acted x found p.view }

-- a pass holds a vertex that it hasn't moved
pub record IsHeldUnmoved (a : Account) (v : ℕ) : Type 0 where
  pub held : 0 < times v a.held
  pub unmoved : times v (moved_vertices a) ≡ 0

-- the stage of a pass that holds a grant, and the grant of a stage
abbrev pub granted : Grant → Stage
granted grant = Granted grant.vertex grant.from grant.to grant.seen

abbrev pub grant_at : Stage → Option Grant
grant_at Idle = None
grant_at (Refused v to seen) = None
grant_at (Granted v from to seen) = Some (record { vertex = v; from = from; to = to; seen = seen })
grant_at (Moving v from to number named raised lowered owed booked) = None

abbrev pub stage_of : Option Grant → Stage
stage_of None = Idle
stage_of (Some grant) = granted grant

-- a grant of a round: a move of a vertex from its block at the opening to another one
pub record IsGrantOf (t : Terms) (grant : Grant) : Type 0 where
  pub vertex : grant.vertex < vertex_count t.part.hyper
  pub from : grant.from ≡ block_of t.part.blocks grant.vertex
  pub block : grant.from < t.part.k
  pub to : grant.to < t.part.k

abbrev pub AreGrantsOf : Terms → Option Grant → Type 0
AreGrantsOf t None = Unit {0}
AreGrantsOf t (Some grant) = IsGrantOf t grant

-- ---- a move

-- what a move finds at one of its nets: in the two counts, and in the spread where it books
pub record NetFinds : Type 0 where
  pub raised : ℕ
  pub widened : ℕ
  pub lowered : ℕ
  pub narrowed : ℕ

-- the view after a net is raised, where the count and the spread told these numbers, and after it is lowered
abbrev pub raised_view : ℕ → ℕ → ℕ → View → View
raised_view i count spread v =
    let u = acted (Raise i) count v in if nat_eq count 0 then acted (Widen i) spread u else u

abbrev pub lowered_view : ℕ → ℕ → ℕ → View → View
lowered_view i count spread v =
    let u = acted (Lower i) count v in if nat_eq count 1 then acted (Narrow i) spread u else u

-- what is booked there
abbrev pub raised_gain : Setup → ℕ → ℕ → ℕ → ℤ
raised_gain g e count spread = if nat_eq count 0 then widen_gain g.graph e spread else pos 0

abbrev pub lowered_gain : Setup → ℕ → ℕ → ℕ → ℤ
lowered_gain g e count spread = if nat_eq count 1 then narrow_gain g.graph e spread else pos 0

-- the view after one net, and after some nets, one after the other
abbrev pub passed_net : ℕ → NetFinds → View → View
passed_net i f v = lowered_view i f.lowered f.narrowed (raised_view i f.raised f.widened v)

abbrev pub passed_nets : ℕ → List NetFinds → View → View
passed_nets i [] v = v
passed_nets i (f ∷ fs) v = passed_nets i fs (passed_net i f v)

-- what is booked at one net, and at some nets
abbrev pub booked_at_net : Setup → ℕ → NetFinds → ℤ
booked_at_net g e f = raised_gain g e f.raised f.widened +ℤ lowered_gain g e f.lowered f.narrowed

abbrev pub booked_at_nets : Setup → List ℕ → List NetFinds → ℤ
booked_at_nets g [] fs = pos 0
booked_at_nets g (e ∷ es) [] = pos 0
booked_at_nets g (e ∷ es) (f ∷ fs) = booked_at_net g e f +ℤ booked_at_nets g es fs

-- a pass that moves a vertex stands before the net e, of which it has raised the count (more = 1) or not yet (more = 0)
pub record IsAtNet (t : Terms) (v : View) (grant : Grant) (e more : ℕ) : Type 0 where
  pub number : ℕ
  pub place : ℕ
  pub booked : ℤ
  pub stage : v.account.stage ≡ Moving grant.vertex grant.from grant.to number true (place + more) place Nothing booked
  pub net : e ≡ slice_index (nets_of t.part.hyper grant.vertex) place
  pub within : place < length (nets_of t.part.hyper grant.vertex)

-- a live pass of the round that knows its number
pub record IsMover (t : Terms) (i : ℕ) (v : View) : Type 0 where
  pub terms : v.terms ≡ t
  pub live : v.account.live ≡ true
  pub number : v.number ≡ i

-- what is booked fits
pub record KeepsFit (v : View) (gain : ℤ) : Type 0 where
  pub move : FitsSigned w64 (booked_at v.account.stage) → FitsSigned w64 (booked_at v.account.stage +ℤ gain)
  pub all : FitsSigned w64 v.account.gain → FitsSigned w64 (v.account.gain +ℤ gain)

-- a net is raised, and lowered
pub record IsRaised (g : Setup) (i e : ℕ) (before after : View) (gain : ℤ) : Type 0 where
  pub count : ℕ
  pub spread : ℕ
  pub leads : after ≡ raised_view i count spread before
  pub gains : gain ≡ raised_gain g e count spread
  pub fits : KeepsFit before gain

pub record IsLowered (g : Setup) (i e : ℕ) (before after : View) (gain : ℤ) : Type 0 where
  pub count : ℕ
  pub spread : ℕ
  pub leads : after ≡ lowered_view i count spread before
  pub gains : gain ≡ lowered_gain g e count spread
  pub fits : KeepsFit before gain

-- some first nets of the vertex are passed
pub record ArePassed (g : Setup) (i : ℕ) (grant : Grant) (number nets : ℕ) (before after : View) (gain : ℤ) : Type 0 where
  pub finds : List NetFinds
  pub each : length finds ≡ nets
  pub leads : after ≡ passed_nets i finds before
  pub gains : gain ≡ booked_at_nets g (take nets (nets_of g.graph grant.vertex)) finds
  pub stage : after.account.stage ≡ Moving grant.vertex grant.from grant.to number true nets nets Nothing gain
  pub all : after.account.gain ≡ before.account.gain +ℤ gain
  pub fits : FitsSigned w64 after.account.gain

-- a whole move: it draws a number, writes the name, goes over the nets of its vertex in rising number, and gives the
-- weight back; it books what its own steps on the spreads found. Then the move is done, and the pass is idle
pub record IsMoveMade (g : Setup) (i : ℕ) (grant : Grant) (before after : View) (gain : ℤ) : Type 0 where
  pub drawn : ℕ
  pub finds : List NetFinds
  pub given : ℕ
  pub each : length finds ≡ length (nets_of g.graph grant.vertex)
  pub gains : gain ≡ booked_at_nets g (nets_of g.graph grant.vertex) finds
  pub leads : after ≡ acted (GiveBack i) given (passed_nets i finds (acted (Name i) grant.from (acted (Draw i) drawn before)))
  pub account : after.account ≡ record before.account {
    stage = Idle;
    moves = before.account.moves ++ record {
      vertex = grant.vertex;
      from = grant.from;
      to = grant.to;
      worker = i;
      booked = gain;
    } ∷ [];
    numbers = before.account.numbers ++ drawn ∷ [];
    gain = before.account.gain +ℤ gain;
  }
  pub least : before.steps + 3 + 2 * length (nets_of g.graph grant.vertex) ≤ after.steps
  pub most : after.steps ≤ before.steps + 3 + 4 * length (nets_of g.graph grant.vertex)

-- ---- at the opening

-- a pass that has claimed, moved, drawn and booked nothing
pub record IsFreshPass (id : TableId) (t : Terms) (i : ℕ) (p : RacedPass) : Type 0 where
  pub same_table : p.table ≡ id
  pub same_terms : p.view.terms ≡ t
  pub number : p.view.number ≡ i
  pub account : p.view.account ≡ blank true

-- the passes of a round, by rising number
pub record AreFresh (id : TableId) (t : Terms) (passes : List RacedPass) : Type 0 where
  pub all : length passes ≡ t.workers
  pub each : (i : ℕ) (p : RacedPass) → i < length passes → IsFreshPass id t i (slice_index_or passes i p)

-- ---- what stands of the types

-- what a pass keeps beside its place at the table
pub record IsPass (i : ℕ) (grant : Option Grant) (done : List Done) (gain : ℤ) (me : Me (Unit {0}) View) : Type 0 where
  pub empty : me.1 ≡ []
  pub number : me.0.number ≡ i
  pub live : me.0.account.live ≡ true
  pub stage : me.0.account.stage ≡ stage_of grant
  pub moves : me.0.account.moves ≡ map (λ d. d.action) done
  pub numbers : me.0.account.numbers ≡ map (λ d. d.number) done
  pub all : me.0.account.gain ≡ gain
  pub booked : gain ≡ total_z (λ m. m.booked) (map (λ d. d.action) done)
  pub own : All (λ d. d.action.worker ≡ i) done
  pub alone : me.0.stands ≡ 1
  pub last : me.0.may ≡ 0
  pub grants : AreGrantsOf me.0.terms grant

-- what a round keeps beside its words
pub record IsRound (h : Hyper) (t : Terms) (table : TableId) (key : Terms) (opened : ℕ) : Type 0 where
  pub terms : IsTerms t
  pub hyper : h ≡ t.part.hyper
  pub same_key : key ≡ t
  pub wide : table.words ≡ word_count (terms_setup t)
  pub bare : table.slots ≡ 0
  pub priced : opened ≡ cost t.part.hyper t.part.blocks
