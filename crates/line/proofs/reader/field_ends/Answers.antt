-- The reader begins at 0, and each call moves it on to the place after the end that it answers.
use Rattle.std.proofs.Common.{◌≡◌, ℕ, suc, ◌+◌, ◌-◌, ◌<◌, List, [], ◌∷◌, ◌++◌, length, take, set, ap, sym, ◌∙◌, arith, add-one, append-nil, length-set, take_all, take-suc-set}
use Rattle.std.proofs.Math.Seq.{append_snoc}
use Rattle.line.specs.declared.reader.Reader.{Reader}
use Rattle.line.specs.Fields.{Moves, field_ends}
use Rattle.line.proofs.reader.field_ends.Goals as goal

-- one end more, and the reader hands out the others
ends-turn : {r r' : Reader} {e : ℕ} (i : ℕ) (es : List ℕ) {ends : List ℕ} → i < 7 → length es ≡ 7 → Moves r r' e → take i es ++ field_ends (7 - i) r.line.now r.at ≡ ends → take (i + 1) (set es i e) ++ field_ends (7 - (i + 1)) r'.line.now r'.at ≡ ends
unfolding field_ends
ends-turn {r} {r'} {e} i es {ends} h k m s =
    let n : 7 - i ≡ suc (7 - (i + 1)) = omega arith in
    let f : List ℕ = field_ends (7 - (i + 1)) r.line.now (e + 1) in
    let on : field_ends (7 - (i + 1)) r'.line.now r'.at ≡ f = ap (λ (x : Reader). field_ends (7 - (i + 1)) x.line.now x.at) m.on in
    let more : take (i + 1) (set es i e) ≡ take i es ++ (e ∷ []) = rw (add-one i) (take-suc-set es i e (omega arith)) in
    let next : e ∷ f ≡ field_ends (7 - i) r.line.now r.at = ap (λ (x : ℕ). x ∷ field_ends (7 - (i + 1)) r.line.now (x + 1)) m.is ∙ sym (ap (λ (x : ℕ). field_ends x r.line.now r.at) n) in
    rw (on, more) (append_snoc (take i es) e f ∙ ap (λ (x : List ℕ). take i es ++ x) next ∙ s)

ends-all : (r : Reader) (i : ℕ) (es : List ℕ) {ends : List ℕ} → i ≡ 7 → length es ≡ 7 → take i es ++ field_ends (7 - i) r.line.now r.at ≡ ends → es ≡ ends
unfolding field_ends
ends-all r i es e k s = sym (append-nil es) ∙ ap (λ (x : List ℕ). x ++ []) (sym (take_all 7 es (omega arith))) ∙ rw e at s

pub loop-end-preserved : goal.loop-end-preserved
loop-end-preserved c = (length-set c.loop-end.end-items c.loop-end.end-index _ ∙ c.loop-end.invariant.0, ends-turn c.loop-end.end-index c.loop-end.end-items (omega arith) c.loop-end.invariant.0 c.next_end.ensures c.loop-end.invariant.1)

pub returns : goal.returns
returns c = ends-all c.loop-end.r c.loop-end.end-index c.loop-end.end-items (omega arith) c.loop-end.invariant.0 c.loop-end.invariant.1
