-- A name under which every definition unfolds: what is to be evaluated says `unfolding computing`. Nothing else uses it.
use Rattle.definitions.specs.Lists.{every, some_of, kept, linked_from, linked, lookup, sum, joined, has, distinct, same, first_no}
use Rattle.definitions.specs.Frames.{is_digit, digit_value, digit_byte, value, hex, fields_of, written, with_byte, lines_of, bytes_of, layouts, frame_of, line_of, section}
use Rattle.definitions.specs.Map.{map_in, action_of, actions_of}
use Rattle.definitions.specs.View.{children_of, bucket_type, kind_number, bucket_kind, type_by, type_of, acceptance_of, device_weight, weight_by, weight_in, weight_of, weights_of, view_of}
use Rattle.definitions.specs.Hash.{rows, mix_step, mix_steps, mix, hash2, hash3, hash4}
use Rattle.definitions.specs.Straw.{floor_to, floor_log, digit, digits, mantissa, L, cost, key, key_of, wins, better, consider, best_to, drawn_of, draw_of}
use Rattle.definitions.specs.Tree.{height_to, height_of, node_weight, turns_left, node_below, leaf_from, tree_by, tree_of}
use Rattle.definitions.specs.Walk.{draw_by, draw_at, landing, deeper, on_winner, on_drawn, descend_in, descend, accepts, device_accepts, accepted, verdict_of, try_number, failed_to, retry_at, rank_start, rank_end, on_verdict, on_tried, plain, plain_test, tested, untested, onward, after_turn, on_turn, on_type, on_landed, on_descent, turn_of, rank_from, rank_by, tries_in, inner_walk, found, sought, through_by, through_test, test_of, rank_of}
use Rattle.definitions.specs.Select.{entries_of, items_of, place_under, put_out, holes_under, nowhere, with_rank, next_rank, ranks_to, with_holes, select_at, select_to, select_of}
use Rattle.definitions.specs.Rule.{taken, selected, act, run_to, widths_from, widths, width_of, padded, placed_by, placed_of}
use Rattle.definitions.specs.Table.{runs_to, runs_of, row_in, table_in, table_of}
use Rattle.definitions.specs.Edit.{edit_layout, change_by, change_of, with_sums, put, same_drawn, same_verdict, ends_of, or_else, parting, is_held, cause_of, move_at, row_moves_to, row_moves, nothing_placed, moves_to, moves_in, moves_of, move_layout, move_line, moves_bytes}
use Rattle.definitions.specs.Ceiling.{holds, holders_in, holders, ceiling}
use Rattle.definitions.specs.Writing.{frames_of, day_group, two_bytes}
use Rattle.definitions.specs.Load.{sized, line_formed, formed, ordered, counted, device_ranged, bucket_ranged, link_ranged, take_ranged, select_ranged, emit_ranged, step_ranged, ranged, link_below, rising, has_device, has_bucket, has_item, takes_present, present, once, falling, filled, narrow, reaches, stand, standing, is_outside, in_blocks, through_typed, typed, slim, summed, light, text_questions, map_questions, load_number, loadable}
use Rattle.definitions.specs.States.{drive_words, state_words, drives_each, words_of, drives_in, states_in, states_of, state_fits, count_fits, stated, named, room_for_name, store_in, stored, devices_named, put_state, return_moves}
use Rattle.definitions.specs.Calls.{whole, whole_with, group_below, room_for_row, room_for_table, room_for_frames, room_for_bytes, not_first_n, independent, fits, fresh, room_for_moves, sizes_by, sizes_of, load_by, load_of, place_number, place_by, place_of, after_load, daemon_number, daemon_by, daemon_of, fill_number, fill_by, fill_of, case_of, edit_number, edit_by, edit_answer, edit_of, store_number, store_by, store_of, return_case, return_number, return_by, return_answer, return_of, ceiling_number, ceiling_by, ceiling_of, write_number, write_by, write_of, day_number, day_by, day_of, drives_by, drives_of}

unfoldable pub computing : Unit {0}
unfolding every some_of kept linked_from linked lookup sum joined has distinct same first_no is_digit digit_value digit_byte value hex fields_of written with_byte lines_of bytes_of layouts frame_of line_of section map_in action_of actions_of children_of bucket_type kind_number bucket_kind type_by type_of acceptance_of device_weight weight_by weight_in weight_of weights_of view_of rows mix_step mix_steps mix hash2 hash3 hash4 floor_to floor_log digit digits mantissa L cost key key_of wins better consider best_to drawn_of draw_of height_to height_of node_weight turns_left node_below leaf_from tree_by tree_of draw_by draw_at landing deeper on_winner on_drawn descend_in descend accepts device_accepts accepted verdict_of try_number failed_to retry_at rank_start rank_end on_verdict on_tried plain plain_test tested untested onward after_turn on_turn on_type on_landed on_descent turn_of rank_from rank_by tries_in inner_walk found sought through_by through_test test_of rank_of entries_of items_of place_under put_out holes_under nowhere with_rank next_rank ranks_to with_holes select_at select_to select_of taken selected act run_to widths_from widths width_of padded placed_by placed_of runs_to runs_of row_in table_in table_of edit_layout change_by change_of with_sums put same_drawn same_verdict ends_of or_else parting is_held cause_of move_at row_moves_to row_moves nothing_placed moves_to moves_in moves_of move_layout move_line moves_bytes holds holders_in holders ceiling frames_of day_group two_bytes sized line_formed formed ordered counted device_ranged bucket_ranged link_ranged take_ranged select_ranged emit_ranged step_ranged ranged link_below rising has_device has_bucket has_item takes_present present once falling filled narrow reaches stand standing is_outside in_blocks through_typed typed slim summed light text_questions map_questions load_number loadable drive_words state_words drives_each words_of drives_in states_in states_of state_fits count_fits stated named room_for_name store_in stored devices_named put_state return_moves whole whole_with group_below room_for_row room_for_table room_for_frames room_for_bytes not_first_n independent fits fresh room_for_moves sizes_by sizes_of load_by load_of place_number place_by place_of after_load daemon_number daemon_by daemon_of fill_number fill_by fill_of case_of edit_number edit_by edit_answer edit_of store_number store_by store_of return_case return_number return_by return_answer return_of ceiling_number ceiling_by ceiling_of write_number write_by write_of day_number day_by day_of drives_by drives_of
computing = tt
