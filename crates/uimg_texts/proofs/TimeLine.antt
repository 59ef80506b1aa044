-- The bytes of a time's line, joined.
use Rattle.std.proofs.Common.{◌≡◌, ℕ, ◌/◌, ◌%◌, List, [], ◌∷◌, ◌++◌, length, get_or, append_assoc, append-nil, refl, ap, arith}
use Rattle.uimg_texts.specs.{Digits.two_digits, Calendar.{civil_date, weekday}}
use Rattle.uimg_texts.specs.Times.{weekday_name, month_name, day_text, moment_text, time_text}

-- the bytes of an array, before others
join_two : (xs r s : List ℕ) → length xs ≡ 2 → r ≡ s → get_or xs 0 0 ∷ (get_or xs 1 0 ∷ r) ≡ xs ++ s
join_two (a ∷ b ∷ []) r s e f = ap (λ (w : List ℕ). a ∷ (b ∷ w)) f
join_two [] r s e f = absurd (omega arith)
join_two (a ∷ []) r s e f = absurd (omega arith)
join_two (a ∷ b ∷ c ∷ xs) r s e f = absurd (omega arith)

join_three : (xs r s : List ℕ) → length xs ≡ 3 → r ≡ s → get_or xs 0 0 ∷ (get_or xs 1 0 ∷ (get_or xs 2 0 ∷ r)) ≡ xs ++ s
join_three (a ∷ b ∷ c ∷ []) r s e f = ap (λ (w : List ℕ). a ∷ (b ∷ (c ∷ w))) f
join_three [] r s e f = absurd (omega arith)
join_three (a ∷ []) r s e f = absurd (omega arith)
join_three (a ∷ b ∷ []) r s e f = absurd (omega arith)
join_three (a ∷ b ∷ c ∷ d ∷ xs) r s e f = absurd (omega arith)

after_byte : (b : ℕ) (r s : List ℕ) → r ≡ s → b ∷ r ≡ b ∷ s
after_byte b r s e = ap (λ (w : List ℕ). b ∷ w) e

-- the array's bytes one by one
pub bytes_of_parts : (w m d h n t c y : List ℕ) → length w ≡ 3 → length m ≡ 3 → length d ≡ 2 → length h ≡ 2 → length n ≡ 2 → length t ≡ 2 → length c ≡ 2 → length y ≡ 2
    → get_or w 0 0 ∷ (get_or w 1 0 ∷ (get_or w 2 0 ∷ (32 ∷ (get_or m 0 0 ∷ (get_or m 1 0 ∷ (get_or m 2 0 ∷ (32 ∷ (get_or d 0 0 ∷ (get_or d 1 0
    ∷ (32 ∷ (get_or h 0 0 ∷ (get_or h 1 0 ∷ (58 ∷ (get_or n 0 0 ∷ (get_or n 1 0 ∷ (58 ∷ (get_or t 0 0 ∷ (get_or t 1 0
    ∷ (32 ∷ (get_or c 0 0 ∷ (get_or c 1 0 ∷ (get_or y 0 0 ∷ (get_or y 1 0 ∷ [])))))))))))))))))))))))
    ≡ w ++ (32 ∷ (m ++ (32 ∷ (d ++ (32 ∷ (h ++ (58 ∷ (n ++ (58 ∷ (t ++ (32 ∷ (c ++ (y ++ [])))))))))))))
bytes_of_parts w m d h n t c y ew em ed eh en et ec ey =
    join_three w _ _ ew (after_byte 32 _ _ (join_three m _ _ em (after_byte 32 _ _ (join_two d _ _ ed (after_byte 32 _ _
    (join_two h _ _ eh (after_byte 58 _ _ (join_two n _ _ en (after_byte 58 _ _ (join_two t _ _ et (after_byte 32 _ _
    (join_two c _ _ ec (join_two y [] [] ey refl)))))))))))))

-- the parts are the text
pub parts_of_text : (year month day weekday hour minute second : ℕ) (w m d h n t c y : List ℕ) → w ≡ weekday_name weekday → m ≡ month_name month → d ≡ day_text day → h ≡ two_digits hour → n ≡ two_digits minute → t ≡ two_digits second → c ≡ two_digits (year / 100) → y ≡ two_digits (year % 100)
    → w ++ (32 ∷ (m ++ (32 ∷ (d ++ (32 ∷ (h ++ (58 ∷ (n ++ (58 ∷ (t ++ (32 ∷ (c ++ (y ++ []))))))))))))) ≡ moment_text year month day weekday hour minute second
parts_of_text year month day weekday hour minute second w m d h n t c y ew em ed eh en et ec ey =
    simp (ew, em, ed, eh, en, et, ec, ey, append_assoc, append-nil)

-- the text of a second is of what a calendar and a clock show
pub time_text-moment : (s year month day w hour minute second : ℕ) → year ≡ (civil_date (s / 86400)).year → month ≡ (civil_date (s / 86400)).month → day ≡ (civil_date (s / 86400)).day → w ≡ weekday (s / 86400) → hour ≡ s % 86400 / 3600 → minute ≡ s % 3600 / 60 → second ≡ s % 60
    → moment_text year month day w hour minute second ≡ time_text s
unfolding time_text
time_text-moment s year month day w hour minute second ey em ed ew eh en es = rw (ey, em, ed, ew, eh, en, es) refl
