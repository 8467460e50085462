-- Short lists: how long they are, the loop that makes one, and one without an element.
use Rattle.std.proofs.Common.{◌≡◌, ℕ, ◌+◌, ◌-◌, ◌<◌, ◌≤◌, List, [], ◌∷◌, ◌++◌, map, length, get_or, take, drop, sym, ap, ◌∙◌, arith, add-one, length-drop, length-take-le}
use Rattle.question.specs.Shorts.{listed}
use Rattle.question.specs.declared.short.Short.{Short}
use Rattle.std.proofs.lemmas.List.Edits.{take-paste}
use Rattle.std.proofs.lemmas.List.{drop-take, map_more, take-take}
use Rattle.std.specs.List.{copy_within, remove}

pub length_listed : {X : Type 0} {n : ℕ} (s : Short X n) → length (listed s) ≡ s.count
length_listed s = length-take-le s.count s.items (omega (arith, s.few, s.full))

pub listed_few : {X : Type 0} {n : ℕ} (s : Short X n) → length (listed s) ≤ n
listed_few s = omega (arith, s.few, length_listed s)

-- a turn of a loop that maps a list
pub map_turn : {X Y : Type 0} (d : X) (f : X → Y) (xs : List X) (i : ℕ) (ys zs : List Y) (y : Y) → i < length xs → ys ≡ map f (take i xs) → y ≡ f (get_or xs i d) →
    zs ≡ ys ++ y ∷ [] → zs ≡ map f (take (i + 1) xs)
map_turn d f xs i ys zs y h inv e made = let m = map_more f xs i d h in cc

-- the elements after the j-th of the first m have moved down by one place
pub moved_down : {X : Type 0} (xs : List X) (j m : ℕ) → j < m → m ≤ length xs → take (m - 1) (copy_within xs (j + 1) m j) ≡ remove (take m xs) j
moved_down xs j m lt le =
    let k = m - (j + 1) in
    let last : m - 1 ≡ j + k = omega arith in
    let all : m ≡ (j + 1) + k = omega arith in
    ap (λ (n : ℕ). take n (copy_within xs (j + 1) m j)) last
    ∙ take-paste xs j (drop (j + 1) xs) k (omega arith) (omega (arith, length-drop (j + 1) xs))
    ∙ ap (λ (ys : List _). ys ++ take k (drop (j + 1) xs)) (sym (take-take j m xs (omega arith)))
    ∙ ap (λ (ys : List _). take j (take m xs) ++ ys) (sym (ap (λ (n : ℕ). drop (j + 1) (take n xs)) all ∙ drop-take (j + 1) k xs) ∙ ap (λ (n : ℕ). drop n (take m xs)) (add-one j))
