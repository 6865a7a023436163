-- The listing of an answer and its record. What is found where:
--   WholeText         a text and the lent bytes that take it
--   ListingOfRecord   the text of a sheet's answer and record is the listing of the sheet
pub mod WholeText
pub mod ListingOfRecord
