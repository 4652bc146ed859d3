-- Each length's sums find their places, by one computed test: what `Summing` and `WideSumming` both show.
use Rattle.std.proofs.Common.{refl}
use Rattle.std.specs.Prelude.{[], ◌∷◌}
use Rattle.arithmetic.specs.Lists.{all, every}
use Rattle.arithmetic.specs.TestLaws.{same}
use Rattle.cosine.specs.Cosine.{reduced, to_half, to_turn, continued}
use Rattle.cosine.specs.CosineLaws.{table_c}
use Rattle.cosine.specs.TableLaws.{numbers}
use Rattle.level.specs.Levels.{IsJoin, joined_place}
use Rattle.level.specs.Spots.{near_6, far_6, near_12, far_12, near_18, far_18, near_36, far_36, near_54, far_54, near_108, far_108}
use Rattle.level.proofs.Tested.{join_of, join_test, agree, read_kernel}

pub join_6 : IsJoin 2 near_6 far_6 (0 ∷ 4 ∷ 129 ∷ 130 ∷ 5 ∷ 131 ∷ [])
unfolding join_test joined_place agree every all same read_kernel table_c continued to_turn to_half reduced numbers near_6 far_6
join_6 = join_of 2 near_6 far_6 (0 ∷ 4 ∷ 129 ∷ 130 ∷ 5 ∷ 131 ∷ []) refl tt

pub join_12 : IsJoin 4 near_12 far_12 (0 ∷ 8 ∷ 6 ∷ 3 ∷ 9 ∷ 130 ∷ 133 ∷ 10 ∷ 132 ∷ 129 ∷ 11 ∷ 135 ∷ [])
unfolding join_test joined_place agree every all same read_kernel table_c continued to_turn to_half reduced numbers near_12 far_12
join_12 = join_of 4 near_12 far_12 (0 ∷ 8 ∷ 6 ∷ 3 ∷ 9 ∷ 130 ∷ 133 ∷ 10 ∷ 132 ∷ 129 ∷ 11 ∷ 135 ∷ []) refl tt

pub join_18 : IsJoin 6 near_18 far_18 (0 ∷ 12 ∷ 131 ∷ 138 ∷ 13 ∷ 139 ∷ 9 ∷ 14 ∷ 6 ∷ 1 ∷ 15 ∷ 130 ∷ 132 ∷ 16 ∷ 5 ∷ 8 ∷ 17 ∷ 7 ∷ [])
unfolding join_test joined_place agree every all same read_kernel table_c continued to_turn to_half reduced numbers near_18 far_18
join_18 = join_of 6 near_18 far_18 (0 ∷ 12 ∷ 131 ∷ 138 ∷ 13 ∷ 139 ∷ 9 ∷ 14 ∷ 6 ∷ 1 ∷ 15 ∷ 130 ∷ 132 ∷ 16 ∷ 5 ∷ 8 ∷ 17 ∷ 7 ∷ []) refl tt

pub join_36 : IsJoin 12 near_36 far_36 (0 ∷ 24 ∷ 22 ∷ 3 ∷ 25 ∷ 134 ∷ 141 ∷ 26 ∷ 140 ∷ 133 ∷ 27 ∷ 147 ∷ 15 ∷ 28 ∷ 9 ∷ 20 ∷ 29 ∷ 17 ∷ 2 ∷ 30 ∷ 135 ∷ 146 ∷ 31 ∷ 132 ∷ 136 ∷ 32 ∷ 142 ∷ 139 ∷ 33 ∷ 10 ∷ 21 ∷ 34 ∷ 16 ∷ 1 ∷ 35 ∷ 23 ∷ [])
unfolding join_test joined_place agree every all same read_kernel table_c continued to_turn to_half reduced numbers near_36 far_36
join_36 = join_of 12 near_36 far_36 (0 ∷ 24 ∷ 22 ∷ 3 ∷ 25 ∷ 134 ∷ 141 ∷ 26 ∷ 140 ∷ 133 ∷ 27 ∷ 147 ∷ 15 ∷ 28 ∷ 9 ∷ 20 ∷ 29 ∷ 17 ∷ 2 ∷ 30 ∷ 135 ∷ 146 ∷ 31 ∷ 132 ∷ 136 ∷ 32 ∷ 142 ∷ 139 ∷ 33 ∷ 10 ∷ 21 ∷ 34 ∷ 16 ∷ 1 ∷ 35 ∷ 23 ∷ []) refl tt

pub join_54 : IsJoin 18 near_54 far_54 (0 ∷ 36 ∷ 137 ∷ 162 ∷ 37 ∷ 157 ∷ 21 ∷ 38 ∷ 24 ∷ 1 ∷ 39 ∷ 136 ∷ 138 ∷ 40 ∷ 17 ∷ 26 ∷ 41 ∷ 19 ∷ 159 ∷ 42 ∷ 160 ∷ 139 ∷ 43 ∷ 16 ∷ 2 ∷ 44 ∷ 135 ∷ 146 ∷ 45 ∷ 155 ∷ 23 ∷ 46 ∷ 22 ∷ 3 ∷ 47 ∷ 134 ∷ 140 ∷ 48 ∷ 15 ∷ 28 ∷ 49 ∷ 35 ∷ 161 ∷ 50 ∷ 158 ∷ 141 ∷ 51 ∷ 14 ∷ 4 ∷ 52 ∷ 133 ∷ 148 ∷ 53 ∷ 153 ∷ [])
unfolding join_test joined_place agree every all same read_kernel table_c continued to_turn to_half reduced numbers near_54 far_54
join_54 = join_of 18 near_54 far_54 (0 ∷ 36 ∷ 137 ∷ 162 ∷ 37 ∷ 157 ∷ 21 ∷ 38 ∷ 24 ∷ 1 ∷ 39 ∷ 136 ∷ 138 ∷ 40 ∷ 17 ∷ 26 ∷ 41 ∷ 19 ∷ 159 ∷ 42 ∷ 160 ∷ 139 ∷ 43 ∷ 16 ∷ 2 ∷ 44 ∷ 135 ∷ 146 ∷ 45 ∷ 155 ∷ 23 ∷ 46 ∷ 22 ∷ 3 ∷ 47 ∷ 134 ∷ 140 ∷ 48 ∷ 15 ∷ 28 ∷ 49 ∷ 35 ∷ 161 ∷ 50 ∷ 158 ∷ 141 ∷ 51 ∷ 14 ∷ 4 ∷ 52 ∷ 133 ∷ 148 ∷ 53 ∷ 153 ∷ []) refl tt

pub join_108 : IsJoin 36 near_108 far_108 (0 ∷ 72 ∷ 70 ∷ 3 ∷ 73 ∷ 146 ∷ 165 ∷ 74 ∷ 188 ∷ 145 ∷ 75 ∷ 195 ∷ 51 ∷ 76 ∷ 33 ∷ 44 ∷ 77 ∷ 53 ∷ 2 ∷ 78 ∷ 147 ∷ 182 ∷ 79 ∷ 144 ∷ 148 ∷ 80 ∷ 178 ∷ 151 ∷ 81 ∷ 34 ∷ 57 ∷ 82 ∷ 40 ∷ 1 ∷ 83 ∷ 47 ∷ 199 ∷ 84 ∷ 141 ∷ 192 ∷ 85 ∷ 197 ∷ 150 ∷ 86 ∷ 35 ∷ 38 ∷ 87 ∷ 32 ∷ 4 ∷ 88 ∷ 66 ∷ 7 ∷ 89 ∷ 142 ∷ 169 ∷ 90 ∷ 184 ∷ 149 ∷ 91 ∷ 191 ∷ 55 ∷ 92 ∷ 29 ∷ 48 ∷ 93 ∷ 49 ∷ 6 ∷ 94 ∷ 143 ∷ 186 ∷ 95 ∷ 140 ∷ 152 ∷ 96 ∷ 174 ∷ 155 ∷ 97 ∷ 30 ∷ 61 ∷ 98 ∷ 36 ∷ 5 ∷ 99 ∷ 43 ∷ 167 ∷ 100 ∷ 137 ∷ 196 ∷ 101 ∷ 193 ∷ 154 ∷ 102 ∷ 31 ∷ 42 ∷ 103 ∷ 28 ∷ 8 ∷ 104 ∷ 62 ∷ 11 ∷ 105 ∷ 138 ∷ 173 ∷ 106 ∷ 180 ∷ 153 ∷ 107 ∷ 187 ∷ [])
unfolding join_test joined_place agree every all same read_kernel table_c continued to_turn to_half reduced numbers near_108 far_108
join_108 = join_of 36 near_108 far_108 (0 ∷ 72 ∷ 70 ∷ 3 ∷ 73 ∷ 146 ∷ 165 ∷ 74 ∷ 188 ∷ 145 ∷ 75 ∷ 195 ∷ 51 ∷ 76 ∷ 33 ∷ 44 ∷ 77 ∷ 53 ∷ 2 ∷ 78 ∷ 147 ∷ 182 ∷ 79 ∷ 144 ∷ 148 ∷ 80 ∷ 178 ∷ 151 ∷ 81 ∷ 34 ∷ 57 ∷ 82 ∷ 40 ∷ 1 ∷ 83 ∷ 47 ∷ 199 ∷ 84 ∷ 141 ∷ 192 ∷ 85 ∷ 197 ∷ 150 ∷ 86 ∷ 35 ∷ 38 ∷ 87 ∷ 32 ∷ 4 ∷ 88 ∷ 66 ∷ 7 ∷ 89 ∷ 142 ∷ 169 ∷ 90 ∷ 184 ∷ 149 ∷ 91 ∷ 191 ∷ 55 ∷ 92 ∷ 29 ∷ 48 ∷ 93 ∷ 49 ∷ 6 ∷ 94 ∷ 143 ∷ 186 ∷ 95 ∷ 140 ∷ 152 ∷ 96 ∷ 174 ∷ 155 ∷ 97 ∷ 30 ∷ 61 ∷ 98 ∷ 36 ∷ 5 ∷ 99 ∷ 43 ∷ 167 ∷ 100 ∷ 137 ∷ 196 ∷ 101 ∷ 193 ∷ 154 ∷ 102 ∷ 31 ∷ 42 ∷ 103 ∷ 28 ∷ 8 ∷ 104 ∷ 62 ∷ 11 ∷ 105 ∷ 138 ∷ 173 ∷ 106 ∷ 180 ∷ 153 ∷ 107 ∷ 187 ∷ []) refl tt
