-- Laws of a row set anew: how a car is noted, how the loop begins, turns and ends, and the row back in the rosters.
use Rattle.std.specs.Prelude.{ℕ, ◌+◌, ◌-◌, ◌*◌, ◌<◌, ◌≤◌, ◌≡◌, refl, Bool, true, false, cond, not, ◌&&◌, ltb, Float, length, get_or, set, drop}
use Rattle.std.proofs.Common.{ap, ap₂, ◌∙◌, arith, zero-add, get_or-take, get_or-drop, lt-ltb, le-ltb}
use Rattle.std.proofs.Math.Bool.{and-false, and-not_self}
use mathlib.Core.List.{List, [], ◌∷◌, ◌++◌, Memᴰ}
use borrow.Rule.Slice.PartMut.{mid_of, put_mid, mid_len}
use Rattle.order.specs.Order.{upto, span, keep, over, Wrote}
use Rattle.order.specs.Sums.{bit}
use Rattle.order.specs.KeepLaws.{span-add, keep_append, keep-ext, length-keep, length-span, span→}
use Rattle.order.specs.BufferLaws.{wrote_none, wrote-more, wrote-over}
use Rattle.order.specs.SetLaws.{Setting, set-begins, set_next, set-turns, set-ends}
use Rattle.squares.specs.declared.shape.Shape.{Shape}
use Rattle.squares.specs.declared.shape.Rect.{Rect}
use Rattle.tables.specs.Rows.{RowThere, marked}
use Rattle.rosters.specs.Inside.{car_within}
use Rattle.rosters.specs.InsideLaws.{row-marked}
use Rattle.rosters.specs.Ridden.{Notes, Turns, Rides, RowRidden, fresh, byte_on, only}

-- ---- a car

not_noted : (byte other c : ℕ) (b : List ℕ) (at : ℕ) → fresh byte other ≡ false → Notes byte other c b b at at
not_noted byte other c b at e = record { wrote = rw e (wrote_none b at); most = omega arith }

-- a car is not noted where the one byte is no mark, nor where the other is one
pub notes-unmarked : (byte other c : ℕ) (b : List ℕ) (at : ℕ) → byte ≡ 0 → Notes byte other c b b at at
notes-unmarked byte other c b at e = not_noted byte other c b at (rw (le-ltb 0 byte (omega arith)))

pub notes-marked : (byte other c : ℕ) (b : List ℕ) (at : ℕ) → (other ≡ 0 → ⊥) → Notes byte other c b b at at
notes-marked byte other c b at f = not_noted byte other c b at (rw (lt-ltb 0 other (omega arith)) (and-false (ltb 0 byte)))

pub notes-one : (byte other c : ℕ) (b b' : List ℕ) (at : ℕ) → (byte ≡ 0 → ⊥) → other ≡ 0 → b' ≡ set b at c → Notes byte other c b b' at (at + 1)
notes-one byte other c b b' at f e g = record { wrote = rw (lt-ltb 0 byte (omega arith), le-ltb 0 other (omega arith)) (record { stored = g; next = refl }); most = omega arith }

-- a byte that stays notes no car
pub turns-none : (old byte c : ℕ) (b f : List ℕ) (n m : ℕ) → byte ≡ old → Turns old byte c b b f f n m n m
turns-none old byte c b f n m e = rw e (record { came = not_noted old old c b n (and-not_self (ltb 0 old)); went = not_noted old old c f m (and-not_self (ltb 0 old)) })

-- ---- a row of cars

-- the first c cars are done
pub record Riding (p : ℕ → Bool) (row row' b b' f f' : List ℕ) (n m c : ℕ) : Type 0 where
  pub set : Setting (λ (i : ℕ). bit (p i)) row row' c
  pub came : Wrote b b' 0 n (only p (byte_on row) c)
  pub went : Wrote f f' 0 m (only (byte_on row) p c)
  pub few-came : n ≤ c
  pub few-went : m ≤ c

pub ride-begins : (p : ℕ → Bool) (row b f : List ℕ) → Riding p row row b b f f 0 0 0
unfolding span keep
ride-begins p row b f = record { set = set-begins (λ (i : ℕ). bit (p i)) row; came = wrote_none b 0; went = wrote_none f 0; few-came = omega arith; few-went = omega arith }

keep-more : (t : ℕ → Bool) (c : ℕ) → keep t (upto (c + 1)) ≡ keep t (upto c) ++ cond (t c) (c ∷ []) []
unfolding span keep
keep-more t c = rw (span-add 0 c 1, keep_append, zero-add c)

byte-test : (t : Bool) → ltb 0 (bit t) ≡ t
byte-test true = refl
byte-test false = refl

-- one car more, noted as a test says
noted : {b b' b'' : List ℕ} {n n' byte other c : ℕ} (t : ℕ → Bool) → fresh byte other ≡ t c → Wrote b b' 0 n (keep t (upto c)) → Notes byte other c b' b'' n n' → Wrote b b'' 0 n' (keep t (upto (c + 1)))
noted {c = c} t e w a = rw (keep-more t c, ← e) (wrote-more w a.wrote)

module _ {p : ℕ → Bool} {row row' b b' f f' : List ℕ} {n m c : ℕ} (k : Riding p row row' b b' f f' n m c) where
  pub ride-turns : c < length row → (held : Bool) → held ≡ p c → (byte : ℕ) → byte ≡ bit held → {b'' f'' : List ℕ} {n' m' : ℕ} → Turns (get_or row' c 0) byte c b' b'' f' f'' n m n' m' → Riding p row (set row' c byte) b b'' f f'' n' m' (c + 1)
  ride-turns h held e byte g t =
      let q : byte ≡ bit (p c) = g ∙ ap bit e in
      let now : ltb 0 byte ≡ p c = ap (ltb 0) q ∙ byte-test (p c) in
      let was : ltb 0 (get_or row' c 0) ≡ byte_on row c = ap (ltb 0) (set_next k.set h) in
      record {
        set = set-turns k.set h byte q;
        came = noted (λ (i : ℕ). p i && not (byte_on row i)) (ap₂ (λ (x y : Bool). x && not y) now was) k.came t.came;
        went = noted (λ (i : ℕ). byte_on row i && not (p i)) (ap₂ (λ (x y : Bool). x && not y) was now) k.went t.went;
        few-came = omega (arith, k.few-came, t.came.most);
        few-went = omega (arith, k.few-went, t.went.most);
      }

  pub ride-ends : length row ≤ c → Rides p row row' b b' f f' n m
  ride-ends h =
      let e : c ≡ length row = omega (arith, k.set.within) in
      record { written = set-ends k.set h; came = rw e at k.came; went = rw e at k.went }

-- ---- a zone's row

-- a list stored from the front of a buffer that has room for all the cars
told : {b b' : List ℕ} {n many : ℕ} (t : ℕ → Bool) → many ≤ length b → Wrote b b' 0 n (keep t (upto many)) → b' ≡ over (keep t (upto many)) b
told {many = many} t h w = wrote-over w (omega (arith, length-keep t (upto many), length-span 0 many))

-- a byte of the part is the zone's
part-byte : (rosters : List ℕ) (z many c : ℕ) → c < many → byte_on (mid_of (z * many) (z * many + many - z * many) rosters) c ≡ marked rosters (z * many) c
part-byte rosters z many c h = ap (ltb 0) (get_or-take (z * many + many - z * many) (drop (z * many) rosters) c 0 (omega arith) ∙ get_or-drop (z * many) rosters c 0)

-- a zone's row set anew
pub row-ridden : {s : Shape} {cars : List ℕ} {spots : List Float} {r : Rect} {rosters : List ℕ} {z many : ℕ} {b b' f f' : List ℕ} {n m : ℕ} → RowThere rosters z many → many ≤ length b → many ≤ length f → (p : ℕ → Bool) → p ≡ car_within s cars spots r → (row : List ℕ) → Rides p (mid_of (z * many) (z * many + many - z * many) rosters) row b b' f f' n m → RowRidden s cars spots r rosters (put_mid (z * many) (z * many + many - z * many) rosters row) z many b b' f f' n m
row-ridden {s} {cars} {spots} {r} {rosters} {z} {many} {b} {b'} {f} {f'} {n} {m} h room room' p within row k =
    let part = mid_of (z * many) (z * many + many - z * many) rosters in
    let in-it = car_within s cars spots r in
    let on-it = marked rosters (z * many) in
    let d : z * many + many - z * many ≡ many = omega arith in
    let l : length part ≡ many = mid_len (z * many) (z * many + many) rosters h.there ∙ d in
    let same : (c : ℕ) → Memᴰ c (upto many) → byte_on part c ≡ on-it c = λ c i. part-byte rosters z many c (omega (arith, span→ 0 many c i)) in
    let came : only p (byte_on part) (length part) ≡ only in-it on-it many
    = ap₂ (λ (t : ℕ → Bool) (i : ℕ). only t (byte_on part) i) within l ∙ keep-ext _ _ (upto many) (λ c i. ap (λ (t : Bool). in-it c && not t) (same c i)) in
    let went : only (byte_on part) p (length part) ≡ only on-it in-it many
    = ap₂ (λ (t : ℕ → Bool) (i : ℕ). only (byte_on part) t i) within l ∙ keep-ext _ _ (upto many) (λ c i. ap (λ (t : Bool). t && not (in-it c)) (same c i)) in
    let wrote : Wrote b b' 0 n (only in-it on-it many) = rw came at k.came in
    let wrote' : Wrote f f' 0 m (only on-it in-it many) = rw went at k.went in
    record {
      written = (row-marked h p within row (record { written = k.written; count = refl })).written;
      came = told _ room wrote;
      came-count = wrote.next ∙ zero-add _;
      went = told _ room' wrote';
      went-count = wrote'.next ∙ zero-add _;
    }
