-- Rows after a join and after a split, number by number.
use Rattle.std.proofs.Common.{◌≡◌, Bool, true, false, not, ◌&&◌, ◌||◌, ◌∙◌, arith}
use Rattle.std.proofs.lemmas.Bool.Decides.{nat_tests}

-- the two are out and the new one is in
pub stands-row : (r w row was jx xn l : Bool) → r ≡ (w || (xn && l)) → w ≡ (row && not jx) → row ≡ was → l ≡ true → r ≡ (xn || (not jx && was))
stands-row r w row was jx xn l p q s t = grind (arith, nat_tests)

-- the new one has the actors of both
pub members-row : (r kept w both row r1 r2 jy yn hy he hf : Bool) → r ≡ (kept || w) → kept ≡ (not jy && row) → w ≡ (yn && both) → both ≡ (r1 || r2) → row ≡ hy → r1 ≡ he → r2 ≡ hf
    → r ≡ ((yn && (he || hf)) || (not jy && hy))
members-row r kept w both row r1 r2 jy yn hy he hf p q s t u v z = grind (arith, nat_tests)

-- below the new one is what was below either, and it is below what either was below
below-same : (jy yn xn jx xy u a b : Bool)
    → (((not jy && ((u && not jx) || (xn && a))) || (yn && (b && not jx))) && not xy)
    ≡ (not xy && ((xn && (not jy && a)) || (yn && (not jx && b)) || (not jx && (not jy && u))))
below-same jy yn xn jx xy u a b = grind (arith, nat_tests)

pub below_row : (r o kept m gained w both row rowe rowf r1 r2 jx xn xy jy yn uxy uey ufy uxe uxf : Bool) → r ≡ (o && not xy) → o ≡ (kept || gained)
    → kept ≡ (not jy && m) → m ≡ ((row && not jx) || (xn && (rowe || rowf))) → gained ≡ (yn && w) → w ≡ (both && not jx)
    → both ≡ (r1 || r2) → row ≡ uxy → rowe ≡ uey → rowf ≡ ufy → r1 ≡ uxe → r2 ≡ uxf
    → r ≡ (not xy && ((xn && (not jy && (uey || ufy))) || (yn && (not jx && (uxe || uxf))) || (not jx && (not jy && uxy))))
below_row r o kept m gained w both row rowe rowf r1 r2 jx xn xy jy yn uxy uey ufy uxe uxf a1 a2 a3 a4 a5 a6 a7 a8 a9 b1 b2 b3 =
    let all : r ≡ (((not jy && ((uxy && not jx) || (xn && (uey || ufy)))) || (yn && ((uxe || uxf) && not jx))) && not xy) = cc in
    all ∙ below-same jy yn xn jx xy uxy (uey || ufy) (uxe || uxf)

-- the whole is out and the parts are in
pub parts_stand : (r w1 w0 row xe x1 x2 l1 l2 was : Bool) → r ≡ (w1 || (x2 && l2)) → w1 ≡ (w0 || (x1 && l1)) → w0 ≡ (row && not xe) → row ≡ was → l1 ≡ true → l2 ≡ true
    → r ≡ ((x1 || x2) || (not xe && was))
parts_stand r w1 w0 row xe x1 x2 l1 l2 was a b c d e f = grind (arith, nat_tests)

-- each part has its share of the actors
pub parts_members : (r o first second kept row ye y1 y2 s1 s2 was : Bool) → r ≡ (o || kept) → o ≡ (first || second) → first ≡ (y1 && s1) → second ≡ (y2 && s2) → kept ≡ (not ye && row) → row ≡ was
    → r ≡ (((y1 && s1) || (y2 && s2)) || (not ye && was))
parts_members r o first second kept row ye y1 y2 s1 s2 was a b c d e f = cc

swap : (xe ye u : Bool) → (not ye && (u && not xe)) ≡ (not xe && (not ye && u))
swap xe ye u = grind (arith, nat_tests)

-- each part has its share of what is directly below, and both are below what the whole was below
pub parts_below : (r o2 o1 parts p2 p1 p0 first second kept w row rowe xe x1 x2 l1 l2 ye y1 y2 b1 b2 uxy uey : Bool) → r ≡ (o2 || kept) → o2 ≡ (o1 || second) → o1 ≡ (parts || first)
    → parts ≡ (rowe && p2) → p2 ≡ (p1 || (x2 && l2)) → p1 ≡ (p0 || (x1 && l1)) → p0 ≡ false → l1 ≡ true → l2 ≡ true
    → first ≡ (y1 && b1) → second ≡ (y2 && b2) → kept ≡ (not ye && w) → w ≡ (row && not xe) → row ≡ uxy → rowe ≡ uey
    → r ≡ (((((x1 || x2) && uey) || (y1 && b1)) || (y2 && b2)) || (not xe && (not ye && uxy)))
parts_below r o2 o1 parts p2 p1 p0 first second kept w row rowe xe x1 x2 l1 l2 ye y1 y2 b1 b2 uxy uey a1 a2 a3 a4 a5 a6 a7 a8 a9 c1 c2 c3 c4 c5 c6 =
    let both : parts ≡ ((x1 || x2) && uey) = grind (arith, nat_tests) in
    let rest : kept ≡ (not xe && (not ye && uxy)) = let k : kept ≡ (not ye && (uxy && not xe)) = cc in k ∙ swap xe ye uxy in
    cc
