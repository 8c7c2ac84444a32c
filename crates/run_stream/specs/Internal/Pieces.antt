-- How a stream is handed over piece by piece, and where it ends.
use Rattle.std.specs.Prelude.{ℕ, zero, suc, ◌≡◌, ◌<◌, ◌≤◌, ◌⊎◌, cond, leb, List, length, Option, Result, Ok}
use Rattle.std.specs.Borrow.{Bor, MutBor}
use Rattle.std.specs.Fn.{Mut, CalledWithState}
use Rattle.std.specs.Io.KnownBytes.{Consumes, IsAtEnd}

-- fewer bytes than this end a stream that is read in pieces of so many: than a record where a piece is no longer than one, else than one
abbrev pub fewest : ℕ → ℕ
fewest room = cond (leb room 64) 64 1

-- from one state of a stream to the next these bytes are read: as many as there is room for, or fewer where nothing is left
pub record Piece {S : Type 0} (known : S → Option (List ℕ)) (room : ℕ) (s : S) (bytes : List ℕ) (s' : S) : Type 0 where
  pub read : Consumes (known s) (known s') bytes
  pub fits : length bytes ≤ room
  pub ends : length bytes < room → IsAtEnd (known s')

module _ {F S E : Type 0} (g : Mut F (MutBor S × (Bor (List ℕ) × Unit {0})) (Result (Unit {0}) E × (MutBor S × Unit {0})))
    (known : S → Option (List ℕ)) (room : ℕ) where
  -- a piece is read that is enough, and handled: what handles it may take more of the stream
  pub record Turn (f : F) (s : S) (f' : F) (s' : S) : Type 0 where
    pub between : S
    pub shown : Bor (List ℕ)
    pub piece : Piece known room s shown.now between
    pub enough : fewest room ≤ length shown.now
    pub handled : CalledWithState g f between shown (Ok tt) f' s'

  -- so many turns, one behind the other
  abbrev pub Turns : ℕ → F → S → F → S → Type 0
  Turns zero f s f' s' = (f ≡ f') × (s ≡ s')
  Turns (suc n) f s f' s' = (h : F) × (t : S) × Turns n f s h t × Turn h t f' s'

  -- the whole stream: turns, and a piece that is too little, which is not handled; or more turns than any stream has
  pub record Whole (f : F) (s s' : S) : Type 0 where
    pub turns : ℕ
    pub last : F
    pub t : S
    pub handled : Turns turns f s last t
    pub end : ((bytes : List ℕ) × Piece known room t bytes s' × (length bytes < fewest room)) ⊎ ((turns ≡ 0xFFFFFFFF) × (t ≡ s'))
