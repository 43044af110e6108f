-- What is left of a script, by the place of the next reply of each method.
use Rattle.std.specs.Prelude.{◌≡◌, ◌≢◌, ℕ, ◌+◌, ◌<◌, ◌≤◌, List, [], ◌∷◌, drop, length}
use Rattle.std.specs.Prelude.{slice_index_or}
use Rattle.std.specs.List.{AllByRecursion, AllPairs, AllZip, Contains}
use Rattle.fidl_limits.specs.declared.limits.TheConstants.{MAX_MESSAGE_BYTES, MAX_MESSAGE_HANDLES}
use Rattle.fidl_requests.specs.declared.verdict.Verdict.{Verdict}
use Rattle.fidl_requests.specs.declared.verdict.Verdict.TheVariants.{Silence, Unknown, Call, End}
use Rattle.fidl_script.specs.Script.{Body, Replies, Script, bodies_of}

-- the replies of a method from a place on
abbrev pub left_from : Replies → (place : ℕ) → Replies
left_from r place = record {
  ordinal = r.ordinal;
  flexible = r.flexible;
  next = slice_index_or (bodies_of r) place r.next;
  later = drop (place + 1) (bodies_of r);
}

-- the replies of each method from its place on
abbrev pub methods_from : List Replies → (places : List ℕ) → List Replies
methods_from [] places = []
methods_from (r ∷ rs) [] = r ∷ rs
methods_from (r ∷ rs) (place ∷ places) = left_from r place ∷ methods_from rs places

-- what is left of a script by these places
unfoldable pub left_of : Script → (places : List ℕ) → Script
left_of s places = record { protocol = s.protocol; methods = methods_from s.methods places }

-- each method has a reply at its place
abbrev pub ArePlaces : Script → (places : List ℕ) → Type 0
ArePlaces s places = AllZip (λ (r : Replies) (place : ℕ). place ≤ length r.later) s.methods places

-- one of the methods has this ordinal
abbrev pub HasMethodOf : (ordinal : ℕ) → List Replies → Type 0
HasMethodOf ordinal methods = (r : Replies) × Contains methods r × (r.ordinal ≡ ordinal)

-- the method of a call is one of them
abbrev pub HasMethodFor : Verdict → List Replies → Type 0
HasMethodFor Silence methods = Unit {0}
HasMethodFor (Unknown txid ordinal) methods = Unit {0}
HasMethodFor (Call txid ordinal) methods = HasMethodOf ordinal methods
HasMethodFor (End ended) methods = Unit {0}

-- the first method of this ordinal is at this place of the list
pub record IsMethodPlace (ordinal : ℕ) (methods : List Replies) (place : ℕ) : Type 0 where
  pub within : place < length methods
  pub is : (d : Replies) → (slice_index_or methods place d).ordinal ≡ ordinal
  pub first : (d : Replies) → (k : ℕ) → k < place → (slice_index_or methods k d).ordinal ≢ ordinal

-- a body fits into a frame
pub record Fits (body : Body) : Type 0 where
  pub bytes : 16 + length body.bytes ≤ MAX_MESSAGE_BYTES
  pub handles : length body.handles ≤ MAX_MESSAGE_HANDLES

-- the ordinals of the methods rise, and each body fits into a frame
pub record AreReady (methods : List Replies) : Type 0 where
  pub rise : AllPairs (λ (r q : Replies). r.ordinal < q.ordinal) methods
  pub fit : AllByRecursion (λ (r : Replies). AllByRecursion Fits (bodies_of r)) methods
